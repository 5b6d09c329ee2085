use Rattle.std.proofs.Common.{ℕ, List, None, filter, filter_map, map, ◌∙◌, ap}
use Rattle.std.specs.Prelude.{pos}
use Rattle.std.specs.Ordering.{int_cmp}
use Rattle.sql_types.specs.declared.table.TableDef.{TableDef}
use Rattle.law_catalog_rows.specs.Differs.{table_of}
use Rattle.law_catalog_rows.specs.Least.{least_from}
use Rattle.audit_definitions.specs.DefinitionRows.{is_missing, rows_in}
use Rattle.audit_rules.specs.Faults.{ids_right}
use Rattle.audit_rules.proofs.Faults.{worst_is}
use Rattle.audit_rules.proofs.fault.worst_of.Goals as goal

pub returns : goal.returns
returns c =
    let entries = c.args.catalog.now.0 in
    let rows = c.args.catalog.now.1 in
    let first = rows_in c.args.rows.now.first.now in
    let second = rows_in c.args.rows.now.second.now in
    let defs = c.args.defs.now in
    worst_is entries rows first second defs c.in_ok-spelled.spelled.items c.in_ok-right.right.items
    c.in_ok-spelled.ensures (c.in_ok-right.ensures ∙ ap (ids_right entries rows) c.deref.ensures.value)
    c.worst_row-worst.result c.worst_row-worst-2.result c.worst_def.result
    (c.worst_row-worst.ensures ∙ ap (λ (l : List ℕ). least_from int_cmp None (filter (is_missing l) (filter_map table_of first))) c.deref-2.ensures.value)
    (c.worst_row-worst-2.ensures ∙ ap (λ (l : List ℕ). least_from int_cmp c.worst_row-worst.result (filter (is_missing l) (filter_map table_of second))) c.deref-3.ensures.value)
    (c.worst_def.ensures ∙ ap (λ (l : List ℕ). least_from int_cmp c.worst_row-worst-2.result (filter (is_missing l) (map (λ (d : TableDef). pos d.id) defs))) c.deref-4.ensures.value)
