use Rattle.std.proofs.Common.{◌≡◌, drop}
use Rattle.std.specs.List.{list_any}
use Rattle.std.specs.Prelude.{◌&&◌}
use Rattle.std.specs.List.{list_all}
use Rattle.spec_rules.specs.OneStatement.{continues_index, starts_an_index}
use Rattle.spec_rules.specs.Rows.{item_of}
use Rattle.audit_rules.specs.Seen.{seen}
use Rattle.audit_rules.proofs.statements.make_an_index.Given as goal

abbrev pub invariant-loop-row : goal.invariant-loop-row
invariant-loop-row l =
    list_any (λ f. starts_an_index (item_of f) && list_all (continues_index (item_of f)) (seen l.items)) (seen (drop l.row-index l.items))
    ≡ list_any (λ f. starts_an_index (item_of f) && list_all (continues_index (item_of f)) (seen l.items)) (seen l.items)
