-- Rows that are made column by column: as columns store them, and their keys.
use Rattle.std.proofs.Common.{◌≡◌, ◌≢◌, ℕ, zero, suc, refl, subst, List, [], ◌∷◌, map, Some, Ok}
use Rattle.std.specs.Prelude.{slice_get}
use Rattle.std.specs.List.{AllByRecursion, zip}
use Rattle.sql_value.specs.declared.value.Value.{Value}
use Rattle.sql_value.specs.declared.value.Value.TheVariants as val
use Rattle.sql_value.specs.declared.column.ColumnDef.{ColumnDef}
use Rattle.spec_model.specs.Refusals.{Checked, and_then}
use Rattle.spec_model.specs.Lists.{checked_map}
use Rattle.spec_model.specs.Rows.{Row, stored_value, stored_row, value_or_null}
use Rattle.spec_model.specs.Keys.{key_places, value_at, key_of, key_at}
use Rattle.law_frame.proofs.Checked.{Led, led}
use Rattle.law_frame.proofs.KeyPlaces.{HasKeyColumn, key_place_columns}

module _ (f : ColumnDef → Value → Checked Value) where
  abbrev mapped : ColumnDef × Value → Checked Value
  mapped p = f p.0 p.1

  stored_plain : (c : ColumnDef) (v : Value) → value_or_null (stored_value c v) ≡ v
  stored_plain c val.Null = refl
  stored_plain c (val.Num s v) = refl
  stored_plain c (val.Text x) = refl
  stored_plain c (val.Bytes x) = refl
  stored_plain c (val.Date d) = refl

  -- the columns store all its values
  pub stored_mapped : (columns : List ColumnDef) (row out : Row) → checked_map mapped (zip columns row) ≡ Ok out → map value_or_null (stored_row columns out) ≡ out
  stored_mapped [] row [] e = refl
  stored_mapped [] row (y ∷ ys) e = cc
  stored_mapped (c ∷ cs) [] [] e = refl
  stored_mapped (c ∷ cs) [] (y ∷ ys) e = cc
  stored_mapped (c ∷ cs) (v ∷ vs) out e =
      let l : Led (mapped (c, v)) (λ y. and_then (checked_map mapped (zip cs vs)) (λ ys. Ok (y ∷ ys))) out = led _ _ out e in
      let k : Led (checked_map mapped (zip cs vs)) (λ ys. Ok (l.value ∷ ys)) out = led _ _ out l.then_ in
      let is : out ≡ l.value ∷ k.value = cc in
      rw is (rw (stored_plain c l.value, stored_mapped cs vs k.value k.was) refl)

  -- a column that keeps its value
  pub kept_place : (columns : List ColumnDef) (row out : Row) (place : ℕ) (c : ColumnDef) → checked_map mapped (zip columns row) ≡ Ok out
      → slice_get columns place ≡ Some c → ((v w : Value) → f c v ≡ Ok w → w ≡ v) → value_at out place ≡ value_at row place
  kept_place [] row out place c e at h = cc
  kept_place (d ∷ ds) [] [] place c e at h = refl
  kept_place (d ∷ ds) [] (y ∷ ys) place c e at h = cc
  kept_place (d ∷ ds) (v ∷ vs) out zero c e at h =
      let l : Led (mapped (d, v)) (λ y. and_then (checked_map mapped (zip ds vs)) (λ ys. Ok (y ∷ ys))) out = led _ _ out e in
      let k : Led (checked_map mapped (zip ds vs)) (λ ys. Ok (l.value ∷ ys)) out = led _ _ out l.then_ in
      let is : out ≡ l.value ∷ k.value = cc in
      let same : d ≡ c = cc in
      rw is (h v l.value (subst (λ (b : ColumnDef). f b v ≡ Ok l.value) same l.was))
  kept_place (d ∷ ds) (v ∷ vs) out (suc place) c e at h =
      let l : Led (mapped (d, v)) (λ y. and_then (checked_map mapped (zip ds vs)) (λ ys. Ok (y ∷ ys))) out = led _ _ out e in
      let k : Led (checked_map mapped (zip ds vs)) (λ ys. Ok (l.value ∷ ys)) out = led _ _ out l.then_ in
      let is : out ≡ l.value ∷ k.value = cc in
      rw is (kept_place ds vs k.value place c k.was at h)

  -- ---- the columns of the key

  at_places : (columns : List ColumnDef) (row out : Row) (places : List ℕ) → checked_map mapped (zip columns row) ≡ Ok out → AllByRecursion (HasKeyColumn columns) places
      → ((place : ℕ) (c : ColumnDef) → slice_get columns place ≡ Some c → c.key_position ≢ 0 → (v w : Value) → f c v ≡ Ok w → w ≡ v)
      → map (value_at out) places ≡ map (value_at row) places
  at_places columns row out [] e has h = refl
  at_places columns row out (p ∷ ps) e has h =
      rw (kept_place columns row out p has.0.0 e has.0.1 (h p has.0.0 has.0.1 has.0.2), at_places columns row out ps e has.1 h) refl

  -- where each column of the key keeps its value, the row keeps its key
  pub key_kept : (columns : List ColumnDef) (row out : Row) → checked_map mapped (zip columns row) ≡ Ok out
      → ((place : ℕ) (c : ColumnDef) → slice_get columns place ≡ Some c → c.key_position ≢ 0 → (v w : Value) → f c v ≡ Ok w → w ≡ v)
      → key_of columns out ≡ key_of columns row
  unfolding key_at
  key_kept columns row out e h = at_places columns row out (key_places columns) e (key_place_columns columns) h
