-- The key that an INSERT wants is the key of the row that it keeps.
use Rattle.std.proofs.Common.{◌≡◌, ℕ, zero, suc, refl, List, [], ◌∷◌, map, Option, Some, Ok, Err}
use Rattle.std.specs.Prelude.{slice_get}
use Rattle.std.specs.List.{AllByRecursion, filter_map, zip}
use Rattle.sql_value.specs.declared.value.Value.{Value}
use Rattle.sql_value.specs.declared.value.Value.TheVariants as val
use Rattle.sql_value.specs.declared.sql_type.SqlType.{SqlType}
use Rattle.sql_value.specs.declared.column.ColumnDef.{ColumnDef}
use Rattle.sql_value.specs.Conversion.{Converted, conversion_of}
use Rattle.spec_model.specs.Refusals.{Checked, and_then}
use Rattle.spec_model.specs.Lists.{checked_map, all_some}
use Rattle.spec_model.specs.Rows.{Row}
use Rattle.spec_model.specs.Keys.{Key, key_places, value_at, key_of, key_at}
use Rattle.spec_model.specs.Changes.{or_its_refusal, kept, kept_row, arranged}
use Rattle.spec_model.specs.Locks.{key_value, key_inserted}
use Rattle.law_frame.proofs.KeyPlaces.{HasColumn, key_places_have}
use Rattle.law_frame.proofs.Checked.{Led, led, Parts, parts}

-- ---- a value

converted_alone : (m : Converted) (x w : Value) → key_value m ≡ Some x → or_its_refusal m ≡ Ok w → w ≡ x
converted_alone (Ok (val.Num s v)) x w h k = cc
converted_alone (Ok (val.Text y)) x w h k = cc
converted_alone (Ok (val.Bytes y)) x w h k = cc
converted_alone (Ok (val.Date d)) x w h k = cc
converted_alone (Ok val.Null) x w h k = cc
converted_alone (Err e) x w h k = cc

null_is_none : (ty : SqlType) (x : Value) → key_value (conversion_of val.Null ty) ≡ Some x → ⊥
unfolding conversion_of
null_is_none ty x h = cc

same_value : (c : ColumnDef) (v x w : Value) → key_value (conversion_of v c.ty) ≡ Some x → kept c v ≡ Ok w → w ≡ x
unfolding kept
same_value c val.Null x w h k = absurd (null_is_none c.ty x h)
same_value c (val.Num s v) x w h k = converted_alone (conversion_of (val.Num s v) c.ty) x w h k
same_value c (val.Text y) x w h k = converted_alone (conversion_of (val.Text y) c.ty) x w h k
same_value c (val.Bytes y) x w h k = converted_alone (conversion_of (val.Bytes y) c.ty) x w h k
same_value c (val.Date d) x w h k = converted_alone (conversion_of (val.Date d) c.ty) x w h k

-- ---- a row

abbrev kept_at : ColumnDef × Value → Checked Value
kept_at p = kept p.0 p.1

at_place : (columns : List ColumnDef) (row out : Row) (place : ℕ) (c : ColumnDef) (x : Value) → checked_map kept_at (zip columns row) ≡ Ok out
    → slice_get columns place ≡ Some c → key_value (conversion_of (value_at row place) c.ty) ≡ Some x → value_at out place ≡ x
at_place [] row out place c x e at h = cc
at_place (d ∷ ds) [] out place c x e at h = absurd (null_is_none c.ty x h)
at_place (d ∷ ds) (v ∷ vs) out zero c x e at h =
    let l : Led (kept d v) (λ y. and_then (checked_map kept_at (zip ds vs)) (λ ys. Ok (y ∷ ys))) out = led _ _ out e in
    let k : Led (checked_map kept_at (zip ds vs)) (λ ys. Ok (l.value ∷ ys)) out = led _ _ out l.then_ in
    let is : out ≡ l.value ∷ k.value = cc in
    let same : d ≡ c = cc in
    rw is (same_value d v x l.value (rw same h) l.was)
at_place (d ∷ ds) (v ∷ vs) out (suc place) c x e at h =
    let l : Led (kept d v) (λ y. and_then (checked_map kept_at (zip ds vs)) (λ ys. Ok (y ∷ ys))) out = led _ _ out e in
    let k : Led (checked_map kept_at (zip ds vs)) (λ ys. Ok (l.value ∷ ys)) out = led _ _ out l.then_ in
    let is : out ≡ l.value ∷ k.value = cc in
    rw is (at_place ds vs k.value place c x k.was at h)

abbrev key_part : ColumnDef × Value → Option Value
key_part p = key_value (conversion_of p.1 p.0.ty)

at_places : (columns : List ColumnDef) (row out : Row) (places : List ℕ) (key : Key) → checked_map kept_at (zip columns row) ≡ Ok out
    → AllByRecursion (HasColumn columns) places
    → all_some (map key_part (zip (filter_map (slice_get columns) places) (map (value_at row) places))) ≡ Some key
    → map (value_at out) places ≡ key
at_places columns row out [] key e has h = cc
at_places columns row out (p ∷ ps) key e has h =
    let c : ColumnDef = has.0.0 in
    let there : slice_get columns p ≡ Some c = has.0.1 in
    let k : in_row c ≡ Some key = rw there at h in
    let q : Parts (key_part (c, value_at row p)) (all_some (map key_part (zip (filter_map (slice_get columns) ps) (map (value_at row) ps)))) key = parts _ _ key k in
    rw (q.are, at_place columns row out p c q.first e there q.is_first, at_places columns row out ps q.others e has.1 q.are_others) refl
  where
    in_row : ColumnDef → Option Key
    in_row d = all_some (map key_part (zip (d ∷ filter_map (slice_get columns) ps) (map (value_at row) (p ∷ ps))))

-- where a row is kept and its key is wanted, that is its key
pub inserted_key : (columns : List ColumnDef) (names : Option (List (List ℕ))) (row out : Row) (key : Key) → kept_row columns (arranged columns names row) ≡ Ok out
    → key_inserted columns names row ≡ Some key → key_of columns out ≡ key
unfolding kept_row key_inserted key_at
inserted_key columns names row out key e h = at_places columns (arranged columns names row) out (key_places columns) key e (key_places_have columns) h
