use Rattle.std.proofs.Common.{ap, ◌∙◌, None, filter_map, map}
use Rattle.std.specs.Prelude.{pos}
use Rattle.sql_types.specs.declared.table.TableDef.{TableDef}
use Rattle.law_catalog_rows.specs.Differs.{table_of}
use Rattle.spec_verify.specs.Definitions.{table_place}
use Rattle.audit_definitions.specs.DefinitionRows.{rows_in}
use Rattle.audit_definitions.proofs.Encoded.{in_three_parts, least_missing}
use Rattle.audit_definitions.proofs.spelling.fault_of.Goals as goal

pub returns : goal.returns
returns c =
    let first = rows_in c.args.first.now in
    let second = rows_in c.args.second.now in
    let defs = c.args.defs.now in
    let spelled = c.in_ok-spelled.ensures in
    c.table_place.ensures
    ∙ ap table_place (in_three_parts first second defs c.worst_row-worst.result c.worst_row-worst-2.result c.worst_def.result
    (c.worst_row-worst.ensures ∙ least_missing first second defs _ (c.deref.ensures.value ∙ spelled) None (filter_map table_of first))
    (c.worst_row-worst-2.ensures ∙ least_missing first second defs _ (c.deref-2.ensures.value ∙ spelled) c.worst_row-worst.result (filter_map table_of second))
    (c.worst_def.ensures ∙ least_missing first second defs _ (c.deref-3.ensures.value ∙ spelled) c.worst_row-worst-2.result (map (λ (d : TableDef). pos d.id) defs)))
