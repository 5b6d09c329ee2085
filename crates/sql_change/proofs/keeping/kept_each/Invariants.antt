use Rattle.std.proofs.Common.{◌≡◌}
use Rattle.std.specs.List.{zip}
use Rattle.spec_model.specs.Lists.{checked_map}
use Rattle.spec_model.specs.Changes as spec
use Rattle.sql_parts.specs.InTurn.{map_after}
use Rattle.sql_change.proofs.keeping.kept_each.Given as goal

abbrev pub invariant-loop-column : goal.invariant-loop-column
invariant-loop-column l =
    map_after (λ p. spec.kept p.0 p.1) l.values.items (zip l.column-iterator.a.rest.now l.column-iterator.b.rest.items)
    ≡ checked_map (λ p. spec.kept p.0 p.1) (zip l.fn.columns l.fn.row)
