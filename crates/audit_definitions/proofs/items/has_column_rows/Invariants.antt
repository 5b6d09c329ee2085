use Rattle.std.proofs.Common.{◌≡◌, ◌+◌, map, drop}
use Rattle.std.specs.List.{list_all}
use Rattle.spec_model.specs.Lists.{numbered}
use Rattle.law_catalog_rows.specs.Encoded.{latest_column_row}
use Rattle.audit_definitions.specs.DefinitionRows.{rows_seen, is_said}
use Rattle.audit_definitions.proofs.items.has_column_rows.Given as goal

abbrev pub invariant-loop-place : goal.invariant-loop-place
invariant-loop-place l =
    let said = is_said 1 (rows_seen l.rows) in
    list_all said (map (latest_column_row l.def) (numbered (l.place + 1) (drop l.place l.def.columns))) ≡ list_all said (map (latest_column_row l.def) (numbered 1 l.def.columns))
