-- Three things in a total order, and what it says of items.
use Rattle.std.proofs.Common.{◌≡◌, ◌⊎◌, inl, inr, true, false, Ordering, refl, sym, ap, ◌∙◌}
use Rattle.std.proofs.lemmas.Bool.{cases_Bool, both_ways, true≢false, false≢true}
use Rattle.std.specs.declared.cmp.Ordering.TheVariants.{Less, Equal, Greater}
use Rattle.std.specs.Ordering.{is_lt, is_gt, is_eq, ordering_reverse}
use Rattle.std.specs.Cmp.{IsTotalOrder}
use Rattle.std.proofs.lemmas.Cmp.{upto, tied_back}
use Rattle.sql_types.specs.declared.lock.Item.{Item}
use Rattle.sql_types.specs.declared.lock.Item.TheVariants.{Whole, Key}
use Rattle.spec_model.specs.Keys.{key_cmp, same_key}
use Rattle.spec_model.specs.Locks.{same_item}
use Rattle.store_locks.specs.Items.{item_cmp, item_total}

pub less_is : (o : Ordering) → is_lt o ≡ true → o ≡ Less
less_is Less is = refl
less_is Equal is = absurd (false≢true is)
less_is Greater is = absurd (false≢true is)

pub equal_is : (o : Ordering) → is_eq o ≡ true → o ≡ Equal
equal_is Less is = absurd (false≢true is)
equal_is Equal is = refl
equal_is Greater is = absurd (false≢true is)

not_greater : (o : Ordering) → is_gt o ≡ false → (o ≡ Less) ⊎ (o ≡ Equal)
not_greater Less is = inl refl
not_greater Equal is = inr refl
not_greater Greater is = absurd (true≢false is)

pub greater_else : (o : Ordering) → is_lt o ≡ false → is_eq o ≡ false → is_gt o ≡ true
greater_else Less lt eq = absurd (true≢false lt)
greater_else Equal lt eq = absurd (true≢false eq)
greater_else Greater lt eq = refl

pub less_is_not_greater : (o : Ordering) → is_lt o ≡ true → is_gt o ≡ false
less_is_not_greater Less is = refl
less_is_not_greater Equal is = refl
less_is_not_greater Greater is = absurd (false≢true is)

turned : (o p : Ordering) → o ≡ ordering_reverse p → is_lt p ≡ false → is_gt o ≡ false
turned o Less is lt = absurd (true≢false lt)
turned o Equal is lt = ap is_gt is
turned o Greater is lt = ap is_gt is

pub lt_before : {K : Type 0} {R : K → K → Ordering} (o : IsTotalOrder R) (x y z : K) → is_gt (R x y) ≡ false → is_lt (R y z) ≡ true → is_lt (R x z) ≡ true
lt_before {R = R} o x y z upto_y less =
    elim (not_greater (R x y) upto_y) [ inl lt ↦ ap is_lt (o.trans x y z lt (less_is (R y z) less)) | inr eq ↦ ap is_lt (o.congr x y z eq) ∙ less ]

pub rest_behind : {K : Type 0} {R : K → K → Ordering} (o : IsTotalOrder R) (x y z : K) → is_gt (R x y) ≡ false → is_lt (R x z) ≡ false → is_lt (R y z) ≡ false
rest_behind {R = R} o x y z upto_y rest =
    elim (cases_Bool (is_lt (R y z))) [ inl less ↦ absurd (both_ways (is_lt (R x z)) rest (lt_before o x y z upto_y less)) | inr more ↦ more ]

pub greater_behind : {K : Type 0} {R : K → K → Ordering} (o : IsTotalOrder R) (x y z : K) → is_gt (R x y) ≡ false → is_gt (R x z) ≡ true → is_gt (R y z) ≡ true
greater_behind {R = R} o x y z upto_y greater =
    elim (cases_Bool (is_gt (R y z))) [ inl more ↦ more | inr upto_z ↦ absurd (both_ways (is_gt (R x z)) (upto o x y z upto_y upto_z) greater) ]

pub upto_turned : {K : Type 0} {R : K → K → Ordering} (o : IsTotalOrder R) (x y : K) → is_lt (R x y) ≡ false → is_gt (R y x) ≡ false
upto_turned {R = R} o x y rest = turned (R y x) (R x y) (o.antisymm y x) rest

-- ---- items

pub same_item_is : (a b : Item) → same_item a b ≡ is_eq (item_cmp a b)
unfolding same_item item_cmp same_key key_cmp
same_item_is Whole Whole = refl
same_item_is Whole (Key b) = refl
same_item_is (Key a) Whole = refl
same_item_is (Key a) (Key b) = refl

pub same_is_equal : (a b : Item) → same_item a b ≡ true → item_cmp b a ≡ Equal
same_is_equal a b same = tied_back item_total a b (equal_is (item_cmp a b) (sym (same_item_is a b) ∙ same))

pub not_same : (a b : Item) → same_item a b ≡ false → is_eq (item_cmp b a) ≡ false
not_same a b other = elim (cases_Bool (is_eq (item_cmp b a))) [
  | inl same ↦
      let equal : item_cmp a b ≡ Equal = tied_back item_total b a (equal_is (item_cmp b a) same) in
      absurd (both_ways (same_item a b) other (same_item_is a b ∙ ap is_eq equal))
  | inr apart ↦ apart
]
