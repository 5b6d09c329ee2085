use Rattle.std.proofs.Common.{◌≡◌, ◌+◌, map, drop}
use Rattle.std.specs.List.{list_all}
use Rattle.spec_model.specs.Lists.{numbered}
use Rattle.spec_model.specs.SystemTables.{index_row}
use Rattle.audit_definitions.specs.DefinitionRows.{rows_seen, is_said}
use Rattle.audit_definitions.proofs.items.has_part_rows.Given as goal

abbrev pub invariant-loop-place : goal.invariant-loop-place
invariant-loop-place l =
    let said = is_said 1 (rows_seen l.rows) in
    let row = index_row l.id (l.others + 1) l.index.name in
    list_all said (map row (numbered (l.place + 1) (drop l.place l.index.ordinals))) ≡ list_all said (map row (numbered 1 l.index.ordinals))
