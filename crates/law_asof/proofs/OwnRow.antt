-- A table is told by its own row, whatever a later definition says of it.
use Rattle.std.proofs.Common.{◌≡◌, ℕ, ℤ, pos, inl, refl, sym, ap, ap₂, subst, ◌∙◌, Bool, true, false, List, [], ◌∷◌, take, Option, Some, None}
use Rattle.std.specs.Prelude.{if◌then◌else◌}
use Rattle.std.specs.List.{AllByRecursion}
use Rattle.sql_value.specs.declared.value.Value.TheVariants.{Bytes, Date, Null, Num, Text}
use Rattle.sql_types.specs.declared.image.Image.{Image}
use Rattle.sql_types.specs.declared.image.TableRows.{TableRows}
use Rattle.sql_types.specs.declared.table.TableDef.{TableDef}
use Rattle.spec_model.specs.Catalog.{Defs, Tables}
use Rattle.spec_model.specs.Lists.{is_among}
use Rattle.spec_model.specs.Rows.{Row}
use Rattle.spec_model.specs.SystemTables.{changed_table_row, columns_def, tables_def}
use Rattle.law_catalog_rows.specs.Differs.{is_encoded}
use Rattle.law_catalog_rows.specs.Encoded.{about, is_about}
use Rattle.law_catalog_rows.specs.Latest.{number_at}
use Rattle.law_catalog_rows.proofs.CountingUp.{one_number}
use Rattle.law_catalog_rows.proofs.LatestOf.{IsIn, from_filtered}
use Rattle.spec_asof.specs.DatabaseAt.{database_at, first_ids, rows_at, system_at, table_at, tables_at, users_at}
use Rattle.spec_asof.specs.DefTold.{columns_told, def_told, dropped_told, indexes_told, items_told, kind_numbered, last_row, table_told}
use Rattle.law_asof.specs.SameItems.{HasSameItems, HaveSameItems}
use Rattle.law_asof.proofs.LastRow.{Found, found}
use Rattle.law_asof.proofs.ToldDef.{kind_in, none_encoded, same_fields, told_id}

-- ---- kinds

pub kind_in_row_is : (change : ℕ) (def : TableDef) → kind_numbered (number_at 3 (changed_table_row change def)) ≡ def.kind
unfolding changed_table_row
kind_in_row_is change def = kind_in def.gone def.kind

pub kind_told : (first second : List Row) (def : TableDef) (row : Row) → last_row 0 (pos def.id) (about (pos def.id) first) ≡ Some row
    → (def_told first second def).kind ≡ kind_numbered (number_at 3 row)
unfolding def_told
kind_told first second def row e = ap (λ (o : Option Row). (table_told o (items_told (about (pos def.id) second) def)).kind) e

-- ---- where no row is the last one, there is none

named : (id : ℤ) (row : Row) → is_about id row ≡ true → number_at 0 row ≡ id
named id [] e = cc
named id (Null ∷ values) e = cc
named id (Num s n ∷ values) e = one_number n id e
named id (Text t ∷ values) e = cc
named id (Bytes b ∷ values) e = cc
named id (Date d ∷ values) e = cc

none_left : (id : ℤ) (rows own : List Row) → about id rows ≡ own → AllByRecursion (λ r. number_at 0 r ≡ id → ⊥) own → own ≡ []
none_left id rows [] e h = refl
none_left id rows (r ∷ own) e h =
    absurd (h.0 (named id r (from_filtered (is_about id) rows r (subst (λ (l : List Row). IsIn r l) (sym e) (inl refl))).1))

no_row : (id : ℤ) (rows : List Row) → last_row 0 id (about id rows) ≡ None → about id rows ≡ []
no_row id rows e = none_left id rows (about id rows) refl (subst (Found 0 id (about id rows)) e (found 0 id (about id rows)))

-- ---- definitions that differ in what a table's row says

module _ (has : ℕ → Bool) (first second : List Row) where
  told_alike : (d e : TableDef) → HasSameItems d e → (row : Row) → last_row 0 (pos e.id) (about (pos e.id) first) ≡ Some row
      → def_told first second d ≡ def_told first second e
  unfolding def_told
  told_alike d e same row is =
      ap (λ (o : Option Row). table_told o (items_told (about (pos d.id) second) d)) (ap (λ (id : ℕ). last_row 0 (pos id) (about (pos id) first)) same.id ∙ is)
      ∙ same_fields (table_told (Some row) (items_told (about (pos d.id) second) d)) (table_told (Some row) (items_told (about (pos e.id) second) e))
      same.id refl refl refl refl refl
      (ap₂ (λ id columns. columns_told (about (pos id) second) columns) same.id same.columns)
      (ap₂ (λ id dropped. dropped_told (about (pos id) second) dropped) same.id same.dropped)
      (ap₂ (λ id indexes. indexes_told (about (pos id) second) id indexes) same.id same.indexes)
      ∙ sym (ap (λ (o : Option Row). table_told o (items_told (about (pos e.id) second) e)) is)

  module _ (rows : TableRows) (rest : Tables) where
    abbrev tell : TableDef → Tables
    tell def = if is_encoded first second [] def then table_at has def rows ∷ rest else rest

    not_spelled : (def : TableDef) → about (pos def.id) first ≡ [] → tell (def_told first second def) ≡ rest
    not_spelled def none =
        ap (λ (b : Bool). if b then table_at has (def_told first second def) rows ∷ rest else rest)
        (none_encoded first second (def_told first second def) (ap (λ (id : ℕ). about (pos id) first) (told_id first second def) ∙ none))

    by_last : (d e : TableDef) → HasSameItems d e → (last : Option Row) → last_row 0 (pos e.id) (about (pos e.id) first) ≡ last
        → tell (def_told first second d) ≡ tell (def_told first second e)
    by_last d e same (Some row) is = ap tell (told_alike d e same row is)
    by_last d e same None is =
        let none : about (pos e.id) first ≡ [] = no_row (pos e.id) first is in
        not_spelled d (ap (λ (id : ℕ). about (pos id) first) same.id ∙ none) ∙ sym (not_spelled e none)

  users_alike : (defs others : Defs) (rows : List TableRows) → HaveSameItems defs others → users_at has first second defs rows ≡ users_at has first second others rows
  users_alike [] [] rows same = refl
  users_alike [] (e ∷ others) rows same = absurd same
  users_alike (d ∷ defs) [] rows same = absurd same
  users_alike (d ∷ defs) (e ∷ others) [] same = refl
  users_alike (d ∷ defs) (e ∷ others) (r ∷ rows) same =
      by_last r (users_at has first second defs rows) d e same.0 (last_row 0 (pos e.id) (about (pos e.id) first)) refl
      ∙ ap (λ (rest : Tables). tell r rest (def_told first second e)) (users_alike defs others rows same.1)

tables_alike : (has : ℕ → Bool) (defs others : Defs) (rows : List TableRows) → HaveSameItems defs others → tables_at has defs rows ≡ tables_at has others rows
tables_alike has defs others [] same = refl
tables_alike has defs others (a ∷ []) same = refl
tables_alike has defs others (a ∷ b ∷ users) same =
    ap (λ (ts : Tables). system_at has tables_def a ∷ system_at has columns_def b ∷ ts) (users_alike has (rows_at has a) (rows_at has b) defs others users same)

pub databases_alike : (i j : Image) (n : ℕ) → i.entries ≡ j.entries → i.tables ≡ j.tables → HaveSameItems i.defs j.defs → database_at i n ≡ database_at j n
unfolding database_at
databases_alike i j n entries tables same =
    tables_alike (is_among (first_ids i.entries n)) i.defs j.defs i.tables same
    ∙ ap₂ (λ entries tables. tables_at (is_among (first_ids entries n)) j.defs tables) entries tables
