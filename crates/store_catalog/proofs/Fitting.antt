-- The rows of a new table and of a new index fit the tables of the system.
use Rattle.std.proofs.Common.{◌≡◌, ◌≤◌, ◌<◌, ℕ, ◌+◌, ◌*◌, subst, ◌∙◌, List, [], ◌∷◌, map, length, Ok, arith}
use Rattle.std.proofs.lemmas.List.{length-map}
use Rattle.std.specs.List.{AllByRecursion}
use Rattle.sql_value.specs.declared.column.ColumnDef.{ColumnDef}
use Rattle.sql_types.specs.declared.statement.CreateIndex.{CreateIndex}
use Rattle.sql_types.specs.declared.table.IndexDef.{IndexDef}
use Rattle.sql_types.specs.declared.table.TableDef.{TableDef}
use Rattle.spec_model.specs.Catalog.{Defs}
use Rattle.spec_model.specs.Create.{index_check}
use Rattle.spec_model.specs.Effect.{column_starts, index_starts, table_start}
use Rattle.spec_model.specs.Lists.{numbered}
use Rattle.spec_model.specs.Rows.{Row, stored_row}
use Rattle.spec_model.specs.SystemTables.{column_row, column_rows, columns_columns, index_row, index_rows, tables_columns}
use Rattle.law_frame.proofs.ChangeSets.{length-numbered as length_numbered}
use Rattle.law_journal.specs.Described.{InRange}
use Rattle.law_journal.specs.Fits.{Fits}
use Rattle.law_journal.proofs.Created.{Created, Indexed, indexed}
use Rattle.law_journal.proofs.SystemRows.{IsSmall, column_row_fits, index_row_fits, table_row_fits}
use Rattle.store_catalog.specs.Definitions.{AreFormed}
use Rattle.store_catalog.specs.Rows.{IsRow}
use Rattle.store_catalog.proofs.DefsKept.{found_all, found_is_listed, IsListedAt}

columns_fit : (id n : ℕ) (cs : List ColumnDef) → id < 2147483648 → n + length cs < 2147483648 → AllByRecursion IsSmall cs → AllByRecursion (λ r. Fits columns_columns (stored_row columns_columns r)) (map (column_row id) (numbered n cs))
columns_fit id n [] small lt h = tt
columns_fit id n (c ∷ cs) small lt h = (column_row_fits id n c small (omega (arith, lt)) h.0, columns_fit id (n + 1) cs small (omega (arith, lt)) h.1)

ordinals_fit : (id g n : ℕ) (name : List ℕ) (os : List ℕ) → id < 2147483648 → 1000 * g + n + length os < 2147483648 → length name ≤ 128 → AllByRecursion (λ o. o ≤ 64) os
    → AllByRecursion (λ r. Fits columns_columns (stored_row columns_columns r)) (map (index_row id g name) (numbered n os))
ordinals_fit id g n name [] small lt short low = tt
ordinals_fit id g n name (o ∷ os) small lt short low =
    (index_row_fits id g name n o small (omega (arith, lt)) short (omega (arith, low.0)), ordinals_fit id g (n + 1) name os small (omega (arith, lt)) short low.1)

starts_are_rows : (rows : List Row) → AllByRecursion (λ r. Fits columns_columns (stored_row columns_columns r)) rows → AllByRecursion IsRow (column_starts rows)
starts_are_rows [] h = tt
starts_are_rows (r ∷ rs) h = ((columns_columns, omega arith, h.0), starts_are_rows rs h.1)

-- ---- CREATE TABLE

pub table_starts_are_rows : (defs : Defs) (def : TableDef) → Created defs def → AllByRecursion IsRow (table_start def)
table_starts_are_rows defs def c = ((tables_columns, omega arith, table_row_fits def (omega (arith, c.id, c.room)) c.name c.history c.view), tt)

pub columns_starts_are_rows : (defs : Defs) (def : TableDef) → Created defs def → AllByRecursion IsRow (column_starts (column_rows def))
unfolding column_rows
columns_starts_are_rows defs def c = starts_are_rows (map (column_row def.id) (numbered 1 def.columns)) (columns_fit def.id 1 def.columns (omega (arith, c.id, c.room)) (omega (arith, c.count)) c.columns)

-- ---- CREATE INDEX

-- what is known of the table of an index that passes the checks
pub record OfIndex (defs : Defs) (def : TableDef) (index : IndexDef) : Type 0 where
  pub has_listing : IsListedAt 1 defs def
  pub few : length def.columns ≤ 64
  pub types : InRange def
  pub rows : AllByRecursion IsRow (index_starts def index)

pub of_index : (defs : Defs) (c : CreateIndex) (def : TableDef) (index : IndexDef) → AreFormed defs → index_check defs c ≡ Ok (def, index) → OfIndex defs def index
unfolding index_rows
of_index defs c def index formed e =
    let i : Indexed defs (def, index) = indexed defs c (def, index) e in
    let s : IsListedAt 1 defs def = subst (IsListedAt 1 defs) i.is (found_is_listed 1 defs i.table i.found formed.ids i.by_name) in
    let few : length def.columns ≤ 64 = subst (λ (d : TableDef). length d.columns ≤ 64) i.is (found_all (λ (d : TableDef). length d.columns ≤ 64) defs i.table i.found i.by_name formed.few) in
    record {
      has_listing = s;
      few = few;
      types = subst InRange i.is (found_all InRange defs i.table i.found i.by_name formed.types);
      rows = starts_are_rows (map (index_row def.id (length def.indexes + 1) index.name) (numbered 1 index.ordinals))
          (ordinals_fit def.id (length def.indexes + 1) 1 index.name index.ordinals (omega (arith, s.id, s.within, formed.count)) (omega (arith, i.indexes, i.count)) i.name
          (low few index.ordinals i.ordinals));
    }
  where
    low : length def.columns ≤ 64 → (os : List ℕ) → AllByRecursion (λ o. o ≤ length def.columns) os → AllByRecursion (λ o. o ≤ 64) os
    low few [] h = tt
    low few (o ∷ os) h = (omega (arith, h.0, few), low few os h.1)

-- ---- how many there are

pub length_columns : (def : TableDef) → length (column_starts (column_rows def)) ≡ length def.columns
unfolding column_rows
length_columns def = length-map (map (column_row def.id) (numbered 1 def.columns)) _ ∙ length-map (numbered 1 def.columns) (column_row def.id) ∙ length_numbered 1 def.columns

pub length_index : (def : TableDef) (index : IndexDef) → length (index_starts def index) ≡ length index.ordinals
unfolding index_rows
length_index def index =
    length-map (map (index_row def.id (length def.indexes + 1) index.name) (numbered 1 index.ordinals)) _
    ∙ length-map (numbered 1 index.ordinals) (index_row def.id (length def.indexes + 1) index.name)
    ∙ length_numbered 1 index.ordinals
