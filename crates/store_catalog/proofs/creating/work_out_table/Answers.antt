use Rattle.std.proofs.Common.{◌≡◌, ◌∙◌, ap, sym, subst, List, Ok}
use Rattle.std.specs.List.{AllByRecursion}
use Rattle.sql_types.specs.declared.change.Change.{Change}
use Rattle.sql_types.specs.declared.table.TableDef.{TableDef}
use Rattle.spec_model.specs.Create.{create_check}
use Rattle.spec_model.specs.Effect.{column_starts, table_start}
use Rattle.spec_model.specs.SystemTables.{column_rows, columns_id, tables_id}
use Rattle.law_journal.proofs.Created.{created}
use Rattle.store_catalog.specs.Rows.{IsRow}
use Rattle.store_catalog.proofs.Creates.{are_new}
use Rattle.store_catalog.proofs.Fitting.{columns_starts_are_rows, table_starts_are_rows}
use Rattle.store_catalog.proofs.creating.work_out_table.Goals as goal

pub new_rows-requires : goal.new_rows-requires
new_rows-requires c =
    let defs = c.args.defs.now in
    let table = c.in_ok-table.table in
    let starts = c.in_ok-in_tables.ensures ∙ ap (λ (d : TableDef). table_start d) (c.get.ensures ∙ c.in_ok-def.ensures) in
    subst (λ (cs : List Change). AllByRecursion IsRow cs) (sym starts) (table_starts_are_rows defs table (created defs c.args.create.now table c.in_ok-table.ensures))

pub new_rows-requires-2 : goal.new_rows-requires-2
new_rows-requires-2 c =
    let defs = c.args.defs.now in
    let table = c.in_ok-table.table in
    let starts = c.in_ok-in_columns.ensures ∙ ap (λ (d : TableDef). column_starts (column_rows d)) (c.get-2.ensures ∙ c.in_ok-def.ensures) in
    subst (λ (cs : List Change). AllByRecursion IsRow cs) (sym starts) (columns_starts_are_rows defs table (created defs c.args.create.now table c.in_ok-table.ensures))

pub returns : goal.returns
returns c =
    let def = c.in_ok-def.def in
    let in_tables = c.in_ok-in_tables.ensures ∙ ap (λ (d : TableDef). table_start d) c.get.ensures in
    let in_columns = c.in_ok-in_columns.ensures ∙ ap (λ (d : TableDef). column_starts (column_rows d)) c.get-2.ensures in
    record {
      passes = subst (λ (d : TableDef). create_check c.args.defs.now c.args.create.now ≡ Ok d) (sym c.in_ok-def.ensures) c.in_ok-table.ensures;
      first = are_new tables_id c.args.tx c.args.seq c.in_ok-in_tables.in_tables (table_start def) c.in_ok-first.first in_tables c.in_ok-first.ensures.starts c.in_ok-first.ensures.leaves c.in_ok-first.ensures.room;
      second = are_new columns_id c.args.tx _ c.in_ok-in_columns.in_columns (column_starts (column_rows def)) c.in_ok-second.second in_columns c.in_ok-second.ensures.starts c.in_ok-second.ensures.leaves c.in_ok-second.ensures.room;
    }
