use Rattle.std.proofs.Common.{◌≡◌, ◌-◌, ◌∙◌, ap, sym, subst, slice_set, List, [], ◌∷◌, Some, Ok, arith}
use Rattle.std.specs.List.{AllByRecursion}
use Rattle.sql_types.specs.declared.change.Change.{Change}
use Rattle.sql_types.specs.declared.change.Change.TheVariants.{Starts}
use Rattle.sql_types.specs.declared.table.TableDef.{TableDef}
use Rattle.spec_model.specs.Alter.{table_drop}
use Rattle.spec_model.specs.Rows.{stored_row}
use Rattle.spec_model.specs.SystemTables.{changed_table_row, tables_columns, tables_id}
use Rattle.store_catalog.specs.Names.{names_from, HasNewNames}
use Rattle.store_catalog.specs.Rows.{IsRow}
use Rattle.store_catalog.proofs.Creates.{are_new}
use Rattle.store_catalog.proofs.Placing.{dropped_id, dropped_is_row, dropped_meant, dropped_names, dropped_placed}
use Rattle.store_catalog.proofs.altering.work_out_drop.Goals as goal

pub new_rows-requires : goal.new_rows-requires
new_rows-requires c =
    let starts = c.in_ok-starts.ensures ∙ ap (λ (d : TableDef). Starts (stored_row tables_columns (changed_table_row c.in_ok-change.change d)) ∷ []) (c.get.ensures ∙ c.in_ok-def.ensures) in
    subst (λ (cs : List Change). AllByRecursion IsRow cs) (sym starts)
    (dropped_is_row c.args.defs.now c.requires c.args.tables.now c.args.columns.now c.args.name.now c.in_ok-dropped.dropped c.in_ok-dropped.ensures c.in_ok-change.change c.in_ok-change.ensures.small, tt)

pub overflow_sub-place : goal.overflow_sub-place
overflow_sub-place c = (dropped_id c.args.defs.now c.requires c.args.tables.now c.args.columns.now c.args.name.now c.in_ok-dropped.dropped c.in_ok-dropped.ensures).0

pub names_with-requires : goal.names_with-requires
names_with-requires c =
    subst (λ (d : TableDef). HasNewNames c.args.defs.now d) (sym (c.get-2.ensures ∙ c.in_ok-def.ensures))
    (dropped_names c.args.defs.now c.requires c.args.tables.now c.args.columns.now c.args.name.now c.in_ok-dropped.dropped c.in_ok-dropped.ensures)

pub returns : goal.returns
returns c =
    let defs = c.args.defs.now in
    let tables = c.args.tables.now in
    let columns = c.args.columns.now in
    let name = c.args.name.now in
    let n = c.in_ok-change.change in
    let def = c.in_ok-dropped.dropped in
    let passes = c.in_ok-dropped.ensures in
    let same = c.in_ok-def.ensures in
    let row : Change = Starts (stored_row tables_columns (changed_table_row n def)) in
    let starts : c.in_ok-starts.starts ≡ row ∷ [] = c.in_ok-starts.ensures ∙ ap (λ (d : TableDef). Starts (stored_row tables_columns (changed_table_row n d)) ∷ []) (c.get.ensures ∙ same) in
    let id = dropped_id defs c.requires tables columns name def passes in
    record {
      row = row;
      passes = subst (λ (d : TableDef). table_drop defs tables columns name ≡ Ok (record { def = d; first = row ∷ []; second = [] })) (sym same)
          (dropped_meant defs c.requires tables columns name def passes n c.in_ok-change.ensures.value);
      placed = dropped_placed defs c.requires tables columns name def passes (record { place = def.id - 1; def = c.in_ok-def.def; names = Some c.in_ok-names.names }) same
          (ap (λ (d : TableDef). d.id) same ∙ omega (arith, id.0)) tt (c.in_ok-names.ensures ∙ ap (λ (d : TableDef). names_from 0 (slice_set defs (def.id - 1) d)) c.get-2.ensures);
      is_row = dropped_is_row defs c.requires tables columns name def passes n c.in_ok-change.ensures.small;
      rows = are_new tables_id c.args.tx c.args.seq c.in_ok-starts.starts (row ∷ []) c.in_ok-rows.rows starts c.in_ok-rows.ensures.starts c.in_ok-rows.ensures.leaves c.in_ok-rows.ensures.room;
    }
