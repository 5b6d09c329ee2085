use Rattle.std.proofs.Common.{◌≡◌}
use Rattle.std.specs.List.{zip}
use Rattle.spec_model.specs.Rows.{row_of}
use Rattle.spec_model.specs.Parts.{base_row}
use Rattle.spec_model.specs.Lists.{checked_map}
use Rattle.spec_model.specs.Changes.{expr_set, value_set}
use Rattle.sql_parts.specs.InTurn.{map_after}
use Rattle.sql_change.proofs.setting.values_set.Given as goal

abbrev pub invariant-loop-column : goal.invariant-loop-column
invariant-loop-column l =
    map_after (λ p. value_set l.fn.def.columns (base_row l.fn.def.columns l.fn.version) p.0 p.1 (expr_set l.fn.sets p.0.name)) l.values.items (zip l.column-iterator.a.rest.now l.column-iterator.b.rest.items)
    ≡ checked_map (λ p. value_set l.fn.def.columns (base_row l.fn.def.columns l.fn.version) p.0 p.1 (expr_set l.fn.sets p.0.name)) (zip l.fn.def.columns (row_of l.fn.def.columns l.fn.version))
