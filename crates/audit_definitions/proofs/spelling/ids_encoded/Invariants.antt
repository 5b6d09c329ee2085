use Rattle.std.proofs.Common.{◌≡◌, map, take, filter}
use Rattle.sql_types.specs.declared.table.TableDef.{TableDef}
use Rattle.law_catalog_rows.specs.Differs.{is_encoded}
use Rattle.audit_definitions.specs.DefinitionRows.{rows_in}
use Rattle.audit_definitions.proofs.spelling.ids_encoded.Given as goal

abbrev pub invariant-loop-def : goal.invariant-loop-def
invariant-loop-def l =
    l.ids.items ≡ map (λ (d : TableDef). d.id) (filter (is_encoded (rows_in l.first) (rows_in l.second) l.defs) (take l.def-index l.defs))
