-- An UPDATE that passes leaves the keys of its rows.
use Rattle.std.proofs.Common.{◌≡◌, ◌≢◌, ℕ, zero, suc, ◌+◌, refl, sym, ap, subst, ◌∙◌, Bool, true, false, List, [], ◌∷◌, map, Option, Some, None, Ok}
use Rattle.std.proofs.lemmas.Bool.{ne_eqb}
use Rattle.std.proofs.lemmas.Iterator.Adapters.{position_from-zero}
use Rattle.std.proofs.lemmas.List.Quantifiers.{position-Some}
use Rattle.std.proofs.lemmas.Option.{slice_get-get_or}
use Rattle.std.proofs.lemmas.Slice.Eq.{bytes_eq-Decides}
use Rattle.std.specs.Prelude.{slice_get, get_or, not, if◌then◌else◌, option_and_then}
use Rattle.std.specs.List.{list_any, position_from}
use Rattle.std.specs.Str.{bytes_eq}
use Rattle.sql_value.specs.declared.value.Value.{Value}
use Rattle.sql_value.specs.declared.column.ColumnDef.{ColumnDef}
use Rattle.sql_value.specs.declared.refusal.Refusal.TheVariants.{NameConflict, NoSuchColumn, AppendOnlyTable, ReadOnlyTable, KeyNotUpdatable}
use Rattle.sql_value.specs.declared.expr.Expr.{Expr}
use Rattle.sql_types.specs.declared.table.TableDef.{TableDef}
use Rattle.sql_types.specs.declared.table.Part.{Part}
use Rattle.sql_types.specs.declared.version.Version.{Version}
use Rattle.spec_model.specs.Refusals.{Checked}
use Rattle.spec_model.specs.Columns.{place_of}
use Rattle.spec_model.specs.Lists.{has_name, repeats}
use Rattle.spec_model.specs.LiveColumns.{live_columns}
use Rattle.spec_model.specs.Rows.{Row, values_of, row_of, stored_row, value_or_null}
use Rattle.sql_types.specs.declared.table.Part.TheVariants.{Base}
use Rattle.spec_model.specs.Parts.{base_row, columns_of}
use Rattle.spec_model.specs.Keys.{key_of, version_key}
use Rattle.spec_model.specs.Changes.{expr_set, value_set, row_after_set}
use Rattle.spec_model.specs.Create.{names_of}
use Rattle.spec_model.specs.Checks.{is_key_column, is_in_key, sets_check, update_check}
use Rattle.law_frame.proofs.Checked.{was_passed, not_refused}
use Rattle.law_frame.proofs.Filled.{filled_key}
use Rattle.law_frame.proofs.SameKeys.{or_false}
use Rattle.law_frame.proofs.MappedRows.{stored_mapped, key_kept}

-- ---- columns by name

same_name : (a b : List ℕ) → bytes_eq a b ≡ true → a ≡ b
same_name a b h = (bytes_eq-Decides a b).0 h

named_itself : (a b : List ℕ) → a ≡ b → bytes_eq a b ≡ true
named_itself a b e = (bytes_eq-Decides a b).1 e

-- none of these columns has the name
not_named : (columns : List ColumnDef) (name : List ℕ) (i : ℕ) (c : ColumnDef) → has_name (names_of columns) name ≡ false → slice_get columns i ≡ Some c → bytes_eq c.name name ≡ false
not_named [] name i c h e = cc
not_named (d ∷ ds) name zero c h e = let same : d ≡ c = cc in subst (λ (b : ColumnDef). bytes_eq b.name name ≡ false) same (or_false (bytes_eq d.name name) (has_name (names_of ds) name) h).0
not_named (d ∷ ds) name (suc i) c h e = not_named ds name i c (or_false (bytes_eq d.name name) (has_name (names_of ds) name) h).1 e

-- of columns with names of their own, two with one name are one
one_named : (columns : List ColumnDef) (i p : ℕ) (c d : ColumnDef) → repeats (names_of columns) ≡ false → slice_get columns p ≡ Some c → slice_get columns i ≡ Some d → d.name ≡ c.name → d ≡ c
one_named [] i p c d r e f n = cc
one_named (x ∷ xs) zero zero c d r e f n = cc
one_named (x ∷ xs) zero (suc p) c d r e f n =
    let same : x ≡ d = cc in
    absurd (no (not_named xs x.name p c (or_false (has_name (names_of xs) x.name) (repeats (names_of xs)) r).0 e) (named_itself c.name x.name (sym n ∙ ap (λ (b : ColumnDef). b.name) (sym same))))
  where
    no : {b : Bool} → b ≡ false → b ≡ true → ⊥
    no h k = cc
one_named (x ∷ xs) (suc i) zero c d r e f n =
    let same : x ≡ c = cc in
    absurd (no (not_named xs x.name i d (or_false (has_name (names_of xs) x.name) (repeats (names_of xs)) r).0 f) (named_itself d.name x.name (n ∙ ap (λ (b : ColumnDef). b.name) (sym same))))
  where
    no : {b : Bool} → b ≡ false → b ≡ true → ⊥
    no h k = cc
one_named (x ∷ xs) (suc i) (suc p) c d r e f n = one_named xs i p c d (or_false (has_name (names_of xs) x.name) (repeats (names_of xs)) r).1 e f n

not_here : (b : Bool) (n : ℕ) (o : Option ℕ) → (if b then Some n else o) ≡ None → b ≡ false
not_here true n o h = cc
not_here false n o h = refl

nor_later : (b : Bool) (n : ℕ) (o : Option ℕ) → (if b then Some n else o) ≡ None → o ≡ None
nor_later true n o h = cc
nor_later false n o h = h

none_passes : {A : Type 0} (test : A → Bool) (xs : List A) (from i : ℕ) (x : A) → position_from test from xs ≡ None → slice_get xs i ≡ Some x → test x ≡ false
none_passes test [] from i x h e = cc
none_passes test (y ∷ ys) from zero x h e = let same : y ≡ x = cc in subst (λ z. test z ≡ false) same (not_here (test y) from (position_from test (from + 1) ys) h)
none_passes test (y ∷ ys) from (suc i) x h e = none_passes test ys (from + 1) i x (nor_later (test y) from (position_from test (from + 1) ys) h) e

-- a column is found by its name
found_by_name : (columns : List ColumnDef) (p : ℕ) (c : ColumnDef) (o : Option ℕ) → repeats (names_of columns) ≡ false → slice_get columns p ≡ Some c → place_of columns c.name ≡ o → option_and_then (slice_get columns) o ≡ Some c
found_by_name columns p c (Some i) r e f =
    let found = position-Some (λ (d : ColumnDef). bytes_eq d.name c.name) columns i c f in
    let at : slice_get columns i ≡ Some (get_or columns i c) = slice_get-get_or columns i c found.0 in
    at ∙ ap (λ (d : ColumnDef). Some d) (one_named columns i p c (get_or columns i c) r e at (same_name (get_or columns i c).name c.name found.1))
found_by_name columns p c None r e f =
    absurd (no (none_passes (λ (d : ColumnDef). bytes_eq d.name c.name) columns 0 p c (sym (position_from-zero (λ (d : ColumnDef). bytes_eq d.name c.name) columns) ∙ f) e) (named_itself c.name c.name refl))
  where
    no : {b : Bool} → b ≡ false → b ≡ true → ⊥
    no h k = cc

-- ---- SET

-- a column of the key isn't set
not_set : (columns : List ColumnDef) (sets : List (List ℕ × Expr)) (c : ColumnDef) → list_any (λ s. is_in_key columns s.0) sets ≡ false → is_in_key columns c.name ≡ true → expr_set sets c.name ≡ None
not_set columns [] c h k = refl
not_set columns (s ∷ ss) c h k =
    let p = or_false (is_in_key columns s.0) (list_any (λ t. is_in_key columns t.0) ss) h in
    here (bytes_eq s.0 c.name) refl p.0 (not_set columns ss c p.1 k)
  where
    here : (b : Bool) → bytes_eq s.0 c.name ≡ b → is_in_key columns s.0 ≡ false → expr_set ss c.name ≡ None → (if b then Some s.1 else expr_set ss c.name) ≡ None
    here true e f g = absurd (let t : is_in_key columns s.0 ≡ true = ap (is_in_key columns) (same_name s.0 c.name e) ∙ k in cc)
    here false e f g = g

key_column : (columns : List ColumnDef) (p : ℕ) (c : ColumnDef) → repeats (names_of columns) ≡ false → slice_get columns p ≡ Some c → c.key_position ≢ 0 → is_in_key columns c.name ≡ true
key_column columns p c r e k = ap is_key_column (found_by_name columns p c (place_of columns c.name) r e refl) ∙ ap not (ne_eqb c.key_position 0 k)

keeps_value : (columns : List ColumnDef) (row : Row) (c : ColumnDef) (o : Option Expr) (v w : Value) → o ≡ None → value_set columns row c v o ≡ Ok w → w ≡ v
keeps_value columns row c (Some x) v w n e = cc
keeps_value columns row c None v w n e = cc

-- where SET names no column of the key, the new row has the key of the version
pub update_keeps_key : (columns : List ColumnDef) (sets : List (List ℕ × Expr)) (v : Version) (row : Row) → repeats (names_of columns) ≡ false
    → list_any (λ s. is_in_key columns s.0) sets ≡ false → row_after_set columns sets v ≡ Ok row
    → key_of columns (map value_or_null (stored_row columns row)) ≡ version_key columns v
unfolding row_after_set
update_keeps_key columns sets v row r none e =
    ap (key_of columns) (stored_mapped set columns (row_of columns v) row e)
    ∙ key_kept set columns (row_of columns v) row e
    (λ p c at k x w s. keeps_value columns (base_row columns v) c (expr_set sets c.name) x w (not_set columns sets c none (key_column columns p c r at k)) s)
    ∙ filled_key columns columns (values_of v)
  where
    set : ColumnDef → Value → Checked Value
    set c x = value_set columns (base_row columns v) c x (expr_set sets c.name)

-- KeyNotUpdatable
sets_passed : (live declared columns : List ColumnDef) (sets : List (List ℕ × Expr)) (cond : Option Expr) → sets_check live declared columns sets cond ≡ Ok tt → list_any (λ s. is_in_key declared s.0) sets ≡ false
unfolding sets_check
sets_passed live declared columns sets cond e = was_passed _ KeyNotUpdatable _ tt (not_refused _ NoSuchColumn _ tt e)

pub sets_no_key : (def : TableDef) (part : Part) (sets : List (List ℕ × Expr)) (cond : Option Expr) → update_check def part sets cond ≡ Ok tt → list_any (λ s. is_in_key def.columns s.0) sets ≡ false
unfolding update_check
sets_no_key def part sets cond e = sets_passed (live_columns def) def.columns (columns_of def Base) sets cond (not_refused _ AppendOnlyTable _ tt (not_refused _ ReadOnlyTable _ tt (not_refused _ NameConflict _ tt e)))
