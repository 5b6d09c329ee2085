use Rattle.std.proofs.Common.{◌≡◌, map, drop, filter}
use Rattle.std.specs.Prelude.{pos}
use Rattle.std.specs.Ordering.{int_cmp}
use Rattle.sql_types.specs.declared.table.TableDef.{TableDef}
use Rattle.law_catalog_rows.specs.Least.{least_from}
use Rattle.audit_definitions.specs.DefinitionRows.{is_missing}
use Rattle.audit_definitions.proofs.spelling.worst_def.Given as goal

abbrev pub invariant-loop-def : goal.invariant-loop-def
invariant-loop-def l =
    least_from int_cmp l.worst (filter (is_missing l.spelled) (map (λ (d : TableDef). pos d.id) (drop l.def-index l.defs)))
    ≡ least_from int_cmp l.fn.worst (filter (is_missing l.spelled) (map (λ (d : TableDef). pos d.id) l.defs))
