-- What the rows of CREATE TABLE tell of the columns of the new table.
use Rattle.std.proofs.Common.{◌≡◌, ◌<◌, ℕ, zero, suc, ◌+◌, refl, ap, subst, sym, ◌∙◌, true, List, [], ◌∷◌, map, length, Option, Some, arith}
use Rattle.std.proofs.lemmas.Option.{slice_get_within}
use Rattle.std.specs.Prelude.{pos, slice_get}
use Rattle.std.specs.List.{AllByRecursion}
use Rattle.sql_value.specs.declared.column.ColumnDef.{ColumnDef}
use Rattle.sql_value.specs.declared.value.Value.{Value}
use Rattle.sql_value.specs.declared.value.Value.TheVariants.{Null, Num, Text, Bytes, Date}
use Rattle.sql_types.specs.declared.table.TableDef.{TableDef}
use Rattle.sql_types.specs.declared.version.Version.{Version}
use Rattle.spec_model.specs.Lists.{numbered}
use Rattle.spec_model.specs.Rows.{Row, start_cmp, started, stored_row, values_of}
use Rattle.spec_model.specs.Keys.{value_at}
use Rattle.spec_model.specs.Changes.{changed_all}
use Rattle.spec_model.specs.SystemTables.{columns_columns, bit, column_row, column_rows}
use Rattle.spec_model.specs.Effect.{column_starts}
use Rattle.spec_history.specs.Lists.{Some_of}
use Rattle.law_frame.proofs.Alls.{all_weaker, all_inserted}
use Rattle.law_journal.proofs.Order.{new_version}
use Rattle.law_catalog_time.specs.AsOfStart.{IsNumber, SaysNotNull}
use Rattle.law_catalog_time.proofs.ToldColumns.{some_new, some_still, IsAbout, IsLast, AreTold, NoneBehind, ToldTable}
use Rattle.law_catalog_time.proofs.EnteredRows.{column_about}

-- a value is one number
same_number : (m n : ℕ) (v : Value) → IsNumber m v → IsNumber n v → m ≡ n
same_number m n (Num s v) h k = let e : pos m ≡ pos n = sym h ∙ k in cc
same_number m n Null h k = absurd h
same_number m n (Text t) h k = absurd h
same_number m n (Bytes b) h k = absurd h
same_number m n (Date d) h k = absurd h

-- through all starts
some_through : (P : Version → Type 0) (tx seq : ℕ) (rows : List Row) (V : List Version) → Some_of P V → Some_of P (changed_all tx seq (column_starts rows) V)
unfolding changed_all started
some_through P tx seq [] V h = h
some_through P tx seq (r ∷ rs) V h = some_through P tx (seq + 1) rs _ (some_still P (new_version (tx, seq) (stored_row columns_columns r)) V h)

module _ (place : ℕ → ℕ) (id : ℕ) (columns : List ColumnDef) where
  -- what a row about a column of the table says: whether it may be NULL
  abbrev Says : Version → Type 0
  Says w = (j : ℕ) → IsAbout id (suc j) w → (c : ColumnDef) × (slice_get columns j ≡ Some c) × IsNumber (bit c.nullable) (value_at (values_of w) 7)

  -- these stand among the columns, with the ordinals from n on
  abbrev StandFrom : ℕ → List ColumnDef → Type 0
  StandFrom n cs = (j : ℕ) (c : ColumnDef) → slice_get cs j ≡ Some c → (i : ℕ) → suc i ≡ n + j → slice_get columns i ≡ Some c

  row_says : (tx seq n : ℕ) (c : ColumnDef) → ((i : ℕ) → suc i ≡ n → slice_get columns i ≡ Some c) → Says (new_version (tx, seq) (stored_row columns_columns (column_row id (n, c))))
  row_says tx seq n c at j about = (c, at j (sym (column_about id (n, c) id (suc j) about).1), refl)

  all_say : (tx seq n : ℕ) (cs : List ColumnDef) (V : List Version) → StandFrom n cs → AllByRecursion Says V → AllByRecursion Says (changed_all tx seq (column_starts (map (column_row id) (numbered n cs))) V)
  unfolding changed_all started
  all_say tx seq n [] V at h = h
  all_say tx seq n (c ∷ cs) V at h =
      all_say tx (seq + 1) (n + 1) cs _ (λ j d e i is. at (suc j) d e i (omega (arith, is)))
      (all_inserted Says start_cmp (new_version (tx, seq) (stored_row columns_columns (column_row id (n, c)))) V (row_says tx seq n c (λ i is. at 0 c refl i (omega (arith, is)))) h)

  some_told : (tx seq n : ℕ) (cs : List ColumnDef) (V : List Version) (j : ℕ) (c : ColumnDef) → slice_get cs j ≡ Some c → Some_of (IsAbout id (n + j)) (changed_all tx seq (column_starts (map (column_row id) (numbered n cs))) V)
  unfolding changed_all started
  some_told tx seq n [] V j c e = cc
  some_told tx seq n (d ∷ cs) V zero c e =
      let itself : IsAbout id (n + 0) (new_version (tx, seq) (stored_row columns_columns (column_row id (n, d)))) = subst (λ (m : ℕ). IsAbout id m (new_version (tx, seq) (stored_row columns_columns (column_row id (n, d))))) (omega arith) (refl, refl) in
      some_through (IsAbout id (n + 0)) tx (seq + 1) (map (column_row id) (numbered (n + 1) cs)) _
      (some_new (IsAbout id (n + 0)) (new_version (tx, seq) (stored_row columns_columns (column_row id (n, d)))) V itself)
  some_told tx seq n (d ∷ cs) V (suc j) c e =
      subst (λ (m : ℕ). Some_of (IsAbout id m) (changed_all tx seq (column_starts (map (column_row id) (numbered n (d ∷ cs)))) V)) (omega arith) (some_told tx (seq + 1) (n + 1) cs _ j c e)

  -- ---- by what they say

  not_null_of : (c : ColumnDef) (w : Version) → c.nullable ≡ true → IsNumber (bit c.nullable) (value_at (values_of w) 7) → SaysNotNull (values_of w) → ⊥
  not_null_of c w e h says = let one : bit c.nullable ≡ 0 = same_number (bit c.nullable) 0 (value_at (values_of w) 7) h says in let z : bit true ≡ 0 = ap bit (sym e) ∙ one in cc

  none_behind : (w : Version) → Says w → (n : ℕ) → length columns < n → IsAbout id n w → ⊥
  none_behind w says zero lt about = omega (arith, lt)
  none_behind w says (suc j) lt about = let k = says j about in let within = slice_get_within columns j k.0 k.1 in omega (arith, lt, within)

  module _ (S : List Version) (none : AllByRecursion (λ w. (n : ℕ) → IsAbout id n w → ⊥) S) (tx seq : ℕ) where
    abbrev All : List Version
    All = changed_all tx seq (column_starts (map (column_row id) (numbered 1 columns))) S

    said : AllByRecursion Says All
    said =
        all_say tx seq 1 columns S (λ j c e i is. subst (λ (m : ℕ). slice_get columns m ≡ Some c) (omega (arith, is)) e)
        (all_weaker (λ w. (n : ℕ) → IsAbout id n w → ⊥) Says (λ w k j about. absurd (k (suc j) about)) S none)

    told : AreTold place All id 1 columns
    told j c e = record {
      there = some_told tx seq 1 columns S j c e;
      nulls = λ nullable. all_weaker Says (λ w. IsLast place All id (1 + j) w → SaysNotNull (values_of w) → ⊥)
          (λ w k last says. (let m = k j (subst (λ (n : ℕ). IsAbout id n w) (omega arith) last.0) in
          let same : m.0 ≡ c = (let both : ◌≡◌ {A = Option ColumnDef} (Some m.0) (Some c) = sym m.1 ∙ e in cc) in
          not_null_of c w nullable (subst (λ (d : ColumnDef). IsNumber (bit d.nullable) (value_at (values_of w) 7)) same m.2) says)) All said;
    }

    behind : NoneBehind place All id (length columns)
    behind = all_weaker Says (λ w. (n : ℕ) → length columns < n → n < 1000 → IsAbout id n w → ⊥) (λ w k n lt low about. none_behind w k n lt about) All said

-- the new table
pub created_told : (place : ℕ → ℕ) (def : TableDef) (S : List Version) (tx seq : ℕ) → AllByRecursion (λ w. (n : ℕ) → IsAbout def.id n w → ⊥) S
    → ToldTable place (changed_all tx seq (column_starts (column_rows def)) S) (record { def = def; versions = [] })
unfolding column_rows
created_told place def S tx seq none = record {
  columns = told place def.id def.columns S none tx seq;
  behind = behind place def.id def.columns S none tx seq;
  versions = tt;
}
