use Rattle.std.proofs.Common.{◌≡◌, drop}
use Rattle.std.specs.Prelude.{pos}
use Rattle.std.specs.List.{list_all}
use Rattle.spec_rules.specs.Places.{PlacedRow}
use Rattle.audit_rules.specs.ByPosition.{is_one}
use Rattle.audit_rules.specs.Seen.{seen}
use Rattle.audit_rules.proofs.statements.are_statements.Given as goal

abbrev pub invariant-loop-row : goal.invariant-loop-row
invariant-loop-row l =
    list_all (λ (r : PlacedRow). is_one l.by_position.entries.now l.by_position.tables.now l.by_position.items.now (pos l.table) r.place.0) (seen (drop l.row-index l.own))
    ≡ list_all (λ (r : PlacedRow). is_one l.by_position.entries.now l.by_position.tables.now l.by_position.items.now (pos l.table) r.place.0) (seen l.own)
