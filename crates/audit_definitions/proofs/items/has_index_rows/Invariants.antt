use Rattle.std.proofs.Common.{◌≡◌, ◌+◌, drop}
use Rattle.std.specs.List.{list_all}
use Rattle.law_catalog_rows.specs.Encoded.{rows_of_indexes}
use Rattle.audit_definitions.specs.DefinitionRows.{rows_seen, is_said}
use Rattle.audit_definitions.proofs.items.has_index_rows.Given as goal

abbrev pub invariant-loop-others : goal.invariant-loop-others
invariant-loop-others l =
    let said = is_said 1 (rows_seen l.rows) in
    list_all said (rows_of_indexes l.def.id (l.others + 1) (drop l.others l.def.indexes)) ≡ list_all said (rows_of_indexes l.def.id 1 l.def.indexes)
