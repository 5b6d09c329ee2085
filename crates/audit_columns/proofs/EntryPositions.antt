-- The places of entries, found among ids that rise.
use Rattle.std.proofs.Common.{◌≡◌, ◌<◌, ◌≤◌, ◌+◌, ◌==◌, ℕ, zero, suc, arith, refl, sym, ap, ◌∙◌, Bool, true, false, cond, nat_lt, List, [], ◌∷◌, length, get_or, Some, None, is_lt, IsSorted, zero-le, suc-le-suc}
use Rattle.std.proofs.lemmas.Bool.{ltb-true}
use Rattle.std.proofs.lemmas.Bool.Decides.{nat_tests}
use Rattle.std.proofs.lemmas.List.Sorted.{ranks_by, sorted_far}
use Rattle.std.specs.Prelude.{slice_get}
use Rattle.std.specs.Cmp.{IsTotalOrder, on_total, nat_cmp_total}
use Rattle.std.specs.List.Sorted.{IsPartitionedBy, IsPartitionPoint}
use Rattle.std.specs.Ordering.{is_gt, nat_cmp}
use Rattle.sql_types.specs.declared.entry.TxEntry.{TxEntry}
use Rattle.spec_model.specs.Lists.{sorted}
use Rattle.sql_parts.proofs.Sorting.{is_sorted}
use Rattle.spec_verify.specs.Order.{position_of}
use Rattle.audit_columns.specs.Positions.{PlacedId, id_cmp, placed_from, placed_by_id, place_at, place_in}
use Rattle.audit_columns.proofs.Folds.{sorted_is}

pub id_total : IsTotalOrder id_cmp
id_total = on_total (λ (p : PlacedId). p.0) nat_cmp_total

pub ids_rise : (entries : List TxEntry) → IsSorted id_cmp (placed_by_id entries)
ids_rise entries = is_sorted id_cmp id_total (placed_from 0 entries)

-- ---- sorting keeps the first place of each id

over : (m n : ℕ) → is_gt (nat_cmp m n) ≡ true → (id : ℕ) → (m == id) ≡ true → (n == id) ≡ false
over m n e id is = grind (arith, nat_tests, e, is)

module _ (id none : ℕ) where
  exchange : (p q : PlacedId) (rest : ℕ) → is_gt (id_cmp p q) ≡ true → cond (q.0 == id) q.1 (cond (p.0 == id) p.1 rest) ≡ cond (p.0 == id) p.1 (cond (q.0 == id) q.1 rest)
  exchange p q rest gt = here (p.0 == id) refl
    where
      here : (b : Bool) → (p.0 == id) ≡ b → cond (q.0 == id) q.1 (cond b p.1 rest) ≡ cond b p.1 (cond (q.0 == id) q.1 rest)
      here true e = ap (λ t. cond t q.1 p.1) (over p.0 q.0 gt id e)
      here false e = refl

  first_sorted : (ps : List PlacedId) → place_in (sorted id_cmp ps) id none ≡ place_in ps id none
  first_sorted ps = sorted_is id_cmp (λ p rest. cond (p.0 == id) p.1 rest) (λ l. place_in l id none) (λ p l. refl) exchange ps

from_place : (n : ℕ) (es : List TxEntry) (id : ℕ) → place_in (placed_from n es) id (n + length es) ≡ n + position_of es id
from_place n [] id = refl
from_place n (e ∷ es) id = here (e.id == id) (ap (λ m. place_in (placed_from (n + 1) es) id m) (omega arith) ∙ from_place (n + 1) es id)
  where
    here : (b : Bool) → place_in (placed_from (n + 1) es) id (n + suc (length es)) ≡ (n + 1) + position_of es id
        → cond b n (place_in (placed_from (n + 1) es) id (n + suc (length es))) ≡ n + cond b zero (suc (position_of es id))
    here true more = omega arith
    here false more = more ∙ omega arith

pub place_is : (entries : List TxEntry) (id : ℕ) → place_in (placed_by_id entries) id (length entries) ≡ position_of entries id
place_is entries id =
    first_sorted id (length entries) (placed_from 0 entries)
    ∙ ap (λ m. place_in (placed_from 0 entries) id m) (omega arith) ∙ from_place 0 entries id ∙ omega arith

-- ---- halving

pub parted : (id : ℕ) (ps : List PlacedId) → IsSorted id_cmp ps → IsPartitionedBy (λ (p : PlacedId). nat_lt p.0 id) ps
parted id ps up i j d le within e =
    let no_less = sorted_far (λ a b. is_lt (id_cmp a b)) (ranks_by id_total (λ p. p)) ps up i j d le within in
    below (get_or ps i d).0 (get_or ps j d).0 no_less e
  where
    below : (m n : ℕ) → is_lt (nat_cmp n m) ≡ false → nat_lt n id ≡ true → nat_lt m id ≡ true
    below m n a b = grind (arith, nat_tests, a, b)

none_of : (id none : ℕ) (ps : List PlacedId) → ((i : ℕ) (d : PlacedId) → i < length ps → id < (get_or ps i d).0) → place_in ps id none ≡ none
none_of id none [] above = refl
none_of id none (p ∷ ps) above =
    let other : (p.0 == id) ≡ false = let lt = above zero p (suc-le-suc zero-le) in grind (arith, nat_tests, lt) in
    ap (λ t. cond t p.1 (place_in ps id none)) other ∙ none_of id none ps (λ i d lt. above (suc i) d (suc-le-suc lt))

at_point : (id none : ℕ) (ps : List PlacedId) (k : ℕ) → ((i : ℕ) (d : PlacedId) → i < k → i < length ps → nat_lt (get_or ps i d).0 id ≡ true)
    → ((d : PlacedId) → k < length ps → nat_lt (get_or ps k d).0 id ≡ false)
    → ((i : ℕ) (d : PlacedId) → k ≤ i → i < length ps → (get_or ps k d).0 ≤ (get_or ps i d).0)
    → place_in ps id none ≡ place_at (slice_get ps k) id none
at_point id none [] k front here rise = refl
at_point id none (p ∷ ps) zero front here rise = by (p.0 == id) refl
  where
    by : (b : Bool) → (p.0 == id) ≡ b → cond b p.1 (place_in ps id none) ≡ cond b p.1 none
    by true e = refl
    by false e =
        let least = here p (suc-le-suc zero-le) in
        let over : id < p.0 = grind (arith, nat_tests, least, e) in
        none_of id none ps (λ i d lt. let le = rise (suc i) d zero-le (suc-le-suc lt) in omega (arith, over, le))
at_point id none (p ∷ ps) (suc k) front here rise =
    let less = front zero p (suc-le-suc zero-le) (suc-le-suc zero-le) in
    let other : (p.0 == id) ≡ false = grind (arith, nat_tests, less) in
    ap (λ t. cond t p.1 (place_in ps id none)) other
    ∙ at_point id none ps k (λ i d lt within. front (suc i) d (suc-le-suc lt) (suc-le-suc within)) (λ d within. here d (suc-le-suc within))
    (λ i d le within. rise (suc i) d (suc-le-suc le) (suc-le-suc within))

not_less : (m n : ℕ) → is_lt (nat_cmp n m) ≡ false → m ≤ n
not_less m n e = grind (arith, nat_tests, e)

-- the place of an id, at the point where the lower ids end
pub place_found : (id none : ℕ) (ps : List PlacedId) (k : ℕ) → IsSorted id_cmp ps
    → IsPartitionPoint (λ (p : PlacedId). nat_lt p.0 id ≡ true) (λ (p : PlacedId). nat_lt p.0 id ≡ false) ps k
    → place_in ps id none ≡ place_at (slice_get ps k) id none
place_found id none ps k up part =
    at_point id none ps k (λ i d lt within. part.0 i d zero-le lt) (λ d within. part.1 k d (omega arith) within)
    (λ i d le within. not_less (get_or ps k d).0 (get_or ps i d).0 (sorted_far (λ a b. is_lt (id_cmp a b)) (ranks_by id_total (λ p. p)) ps up k i d le within))

some_there : (ps : List PlacedId) (k : ℕ) (q : PlacedId) → k < length ps → slice_get ps k ≡ Some (get_or ps k q)
some_there [] k q lt = absurd (omega (arith, lt))
some_there (p ∷ ps) zero q lt = refl
some_there (p ∷ ps) (suc k) q lt = some_there ps k q (omega (arith, lt))

none_there : (ps : List PlacedId) (k : ℕ) → length ps ≤ k → slice_get ps k ≡ None
none_there [] k le = refl
none_there (p ∷ ps) zero le = absurd (omega (arith, le))
none_there (p ∷ ps) (suc k) le = none_there ps k (omega (arith, le))

module _ (id none : ℕ) (ps : List PlacedId) (k : ℕ) (up : IsSorted id_cmp ps)
    (part : IsPartitionPoint (λ (p : PlacedId). nat_lt p.0 id ≡ true) (λ (p : PlacedId). nat_lt p.0 id ≡ false) ps k) where
  pub some_found : (q : PlacedId) → true ≡ nat_lt k (length ps) → q ≡ get_or ps k q → place_at (Some q) id none ≡ place_in ps id none
  some_found q within is =
      let lt : k < length ps = ltb-true k (length ps) (sym within) in
      ap (λ o. place_at o id none) (ap (λ (p : PlacedId). Some p) is ∙ sym (some_there ps k q lt)) ∙ sym (place_found id none ps k up part)

  pub none_found : length ps ≤ k → none ≡ place_in ps id none
  none_found past = ap (λ o. place_at o id none) (sym (none_there ps k past)) ∙ sym (place_found id none ps k up part)
