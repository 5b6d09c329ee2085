use Rattle.std.proofs.Common.{◌≡◌, ◌-◌, ◌∙◌, ℕ, sym, ap₂, subst, List, [], ◌∷◌, None, arith}
use Rattle.std.specs.List.{AllByRecursion}
use Rattle.sql_types.specs.declared.change.Change.{Change}
use Rattle.sql_types.specs.declared.change.Change.TheVariants.{Starts}
use Rattle.sql_types.specs.declared.table.TableDef.{TableDef}
use Rattle.spec_model.specs.Alter.{alteration, WithColumn}
use Rattle.spec_model.specs.Rows.{stored_row}
use Rattle.spec_model.specs.SystemTables.{changed_column_row, columns_columns, columns_id}
use Rattle.store_catalog.specs.Rows.{IsRow}
use Rattle.store_catalog.specs.WorkedOut.{IsAlteredTable}
use Rattle.store_catalog.proofs.Creates.{are_new}
use Rattle.store_catalog.proofs.Placing.{altered_id, altered_is_row, altered_meant, altered_placed}
use Rattle.store_catalog.proofs.altering.work_out_alter.Goals as goal

pub new_rows-requires : goal.new_rows-requires
new_rows-requires c =
    let n = c.in_ok-change.change in
    let x : WithColumn = (c.in_ok-altered.altered, (c.in_ok-altered.ordinal, c.in_ok-altered.column)) in
    let into : c.into.result ≡ c.in_ok-altered.ordinal = (let given = c.into.ensures in cc) in
    let one : c.in_ok-starts.starts ≡ Starts (stored_row columns_columns (changed_column_row n x.0 x.1)) ∷ [] =
    c.in_ok-starts.ensures ∙ ap₂ (λ (d : TableDef) (k : ℕ). Starts (stored_row columns_columns (changed_column_row n d (k, x.1.1))) ∷ []) (c.get.ensures ∙ c.in_ok-def.ensures) into in
    subst (λ (cs : List Change). AllByRecursion IsRow cs) (sym one)
    (altered_is_row c.args.defs.now c.requires c.args.tables.now c.args.columns.now c.args.alter.now x c.in_ok-altered.ensures n c.in_ok-change.ensures.small, tt)

pub overflow_sub-placed : goal.overflow_sub-placed
overflow_sub-placed c =
    let x : WithColumn = (c.in_ok-altered.altered, (c.in_ok-altered.ordinal, c.in_ok-altered.column)) in
    (altered_id c.args.defs.now c.requires c.args.tables.now c.args.columns.now c.args.alter.now x c.in_ok-altered.ensures).0

pub returns : goal.returns
returns c =
    let defs = c.args.defs.now in
    let tables = c.args.tables.now in
    let columns = c.args.columns.now in
    let y = c.args.alter.now in
    let n = c.in_ok-change.change in
    let x : WithColumn = (c.in_ok-altered.altered, (c.in_ok-altered.ordinal, c.in_ok-altered.column)) in
    let passes = c.in_ok-altered.ensures in
    let row : Change = Starts (stored_row columns_columns (changed_column_row n x.0 x.1)) in
    let into : c.into.result ≡ c.in_ok-altered.ordinal = (let given = c.into.ensures in cc) in
    let one : c.in_ok-starts.starts ≡ row ∷ [] =
    c.in_ok-starts.ensures ∙ ap₂ (λ (d : TableDef) (k : ℕ). Starts (stored_row columns_columns (changed_column_row n d (k, x.1.1))) ∷ []) (c.get.ensures ∙ c.in_ok-def.ensures) into in
    let id = altered_id defs c.requires tables columns y x passes in
    subst (λ (d : TableDef). IsAlteredTable defs (alteration defs tables columns y) c.args.tx c.args.seq
    (record { placed = record { place = x.0.id - 1; def = d; names = None }; rows = c.in_ok-rows.rows })) (sym c.in_ok-def.ensures)
    (record {
      row = row;
      passes = altered_meant defs c.requires tables columns y x passes n c.in_ok-change.ensures.value;
      placed = altered_placed defs c.requires tables columns y x passes (x.0.id - 1) (omega (arith, id.0));
      is_row = altered_is_row defs c.requires tables columns y x passes n c.in_ok-change.ensures.small;
      rows = are_new columns_id c.args.tx c.args.seq c.in_ok-starts.starts (row ∷ []) c.in_ok-rows.rows one c.in_ok-rows.ensures.starts c.in_ok-rows.ensures.leaves c.in_ok-rows.ensures.room;
    })
