-- The rows of each index are those of the base, sorted.
use Rattle.std.proofs.Common.{◌≡◌, ℕ, ◌+◌, refl, ap, ◌∙◌, true, List, [], ◌∷◌, ◌++◌, length, map, get_or, Option, Some, None, arith}
use Rattle.std.proofs.lemmas.Bool.{eq-eqb}
use Rattle.std.proofs.lemmas.List.{length-append}
use Rattle.std.specs.Ordering.{is_eq}
use Rattle.sql_value.specs.declared.sql_type.SqlType.{SqlType}
use Rattle.sql_value.specs.declared.value.Value.{Value}
use Rattle.sql_value.specs.Order.{value_cmp, value_total}
use Rattle.sql_value.specs.TypeCodes.{type_code, first_parameter, second_parameter}
use Rattle.sql_types.specs.declared.journal.JournalItem.{JournalItem}
use Rattle.sql_types.specs.declared.table.IndexDef.{IndexDef}
use Rattle.sql_types.specs.declared.version.Table.{Table}
use Rattle.sql_types.specs.declared.version.TypedValue.{TypedValue}
use Rattle.spec_model.specs.Catalog.{Tables, Defs, defs_of}
use Rattle.spec_model.specs.Journals.{serial, IsLegal}
use Rattle.spec_model.specs.Rows.{live}
use Rattle.spec_model.specs.Script.{Reading}
use Rattle.law_frame.proofs.SameKeys.{own_reverse}
use Rattle.format_image.specs.Image.{image_of}
use Rattle.format_image.specs.Rows.{Stored, filled_table, index_rows, rows_by_part, table_rows}
use Rattle.spec_verify.specs.declared.place.Place.TheVariants as at
use Rattle.spec_verify.specs.First.{unless, first_from}
use Rattle.spec_verify.specs.Indexes.{same_value, same_row, same_rows, index_holds, table_fault, first_table, index_fault}
use Rattle.spec_verify.specs.Versions.{same_type}
use Rattle.law_accepts.proofs.Firsts.{both, passes, neither}
use Rattle.law_accepts.proofs.Shown.{defs_shown}

own_value : (v : Value) → is_eq (value_cmp v v) ≡ true
own_value v = own_reverse (value_cmp v v) (value_total.antisymm v v)

pub own_type : (ty : SqlType) → same_type ty ty ≡ true
own_type ty =
    both (eq-eqb (type_code ty) (type_code ty) refl)
    (both (eq-eqb (first_parameter ty) (first_parameter ty) refl) (eq-eqb (second_parameter ty) (second_parameter ty) refl))

same_itself : (v : Option TypedValue) → same_value v v ≡ true
same_itself None = refl
same_itself (Some t) = both (own_type t.ty) (own_value t.value)

own_row : (row : Stored) → same_row row row ≡ true
own_row [] = refl
own_row (v ∷ vs) = both (same_itself v) (own_row vs)

own_rows : (rows : List Stored) → same_rows rows rows ≡ true
own_rows [] = refl
own_rows (r ∷ rs) = both (own_row r) (own_rows rs)

-- the rows of the index with this number
there : (f : IndexDef → List Stored) (before : List IndexDef) (x : IndexDef) (rest : List IndexDef) → get_or (map f (before ++ x ∷ rest)) (length before) [] ≡ f x
there f [] x rest = refl
there f (y ∷ ys) x rest = there f ys x rest

longer : (before : List IndexDef) (x : IndexDef) (rest : List IndexDef) → before ++ x ∷ rest ≡ (before ++ x ∷ []) ++ rest
longer [] x rest = refl
longer (y ∷ ys) x rest = ap (λ zs. y ∷ zs) (longer ys x rest)

module _ (t : Table) where
  rows_there : (before : List IndexDef) (x : IndexDef) (rest : List IndexDef) → t.def.indexes ≡ before ++ x ∷ rest
      → get_or (rows_by_part t).indexes (length before) [] ≡ index_rows t.def (live t.versions) x
  rows_there before x rest e =
      ap (λ (is : List IndexDef). get_or (map (index_rows t.def (live t.versions)) is) (length before) []) e ∙ there (index_rows t.def (live t.versions)) before x rest

  index_there : (before : List IndexDef) (x : IndexDef) (rest : List IndexDef) → t.def.indexes ≡ before ++ x ∷ rest → index_holds t.def (rows_by_part t) (length before) x ≡ true
  index_there before x rest e =
      ap (λ (rows : List Stored). same_rows rows (index_rows t.def (live t.versions) x)) (rows_there before x rest e) ∙ own_rows (index_rows t.def (live t.versions) x)

  each_there : (n : ℕ) (before rest : List IndexDef) → t.def.indexes ≡ before ++ rest → n ≡ length before
      → first_from (λ g index. unless (index_holds t.def (rows_by_part t) g index) (at.Index t.def.id (g + 1))) n rest ≡ None
  each_there n before [] e count = refl
  each_there n before (x ∷ rest) e count =
      neither _ _
      (passes (index_holds t.def (rows_by_part t) n x) (at.Index t.def.id (n + 1)) (ap (λ (g : ℕ). index_holds t.def (rows_by_part t) g x) count ∙ index_there before x rest e))
      (each_there (n + 1) (before ++ x ∷ []) rest (e ∙ longer before x rest) (omega (arith, count, length-append before (x ∷ []))))

  table_holds : table_fault t.def (rows_by_part t) ≡ None
  table_holds = each_there 0 [] t.def.indexes refl refl

tables_hold : (T : Tables) → first_table (defs_of T) (map table_rows T) ≡ None
unfolding table_rows
tables_hold [] = refl
tables_hold (t ∷ ts) = neither _ _ (table_holds (filled_table t)) (tables_hold ts)

pub indexes_hold : (h : List ℕ → List ℕ) (reads : Reading) (database : List ℕ) (items : List JournalItem) → IsLegal reads items → index_fault (image_of h reads database items) ≡ None
unfolding image_of index_fault
indexes_hold h reads database items legal =
    ap (λ (ds : Defs). first_table ds (map table_rows (serial reads items))) (defs_shown h reads database items legal) ∙ tables_hold (serial reads items)
