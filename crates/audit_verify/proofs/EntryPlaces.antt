-- The place of an entry is found by a search among the sorted ids.
use Rattle.std.proofs.Common.{◌≡◌, ◌≢◌, ◌<◌, ◌≤◌, ◌+◌, ◌==◌, ◌||◌, nat_lt, ltb, ℕ, zero, suc, Bool, true, false, cond, not, ◌&&◌, List, [], ◌∷◌, ◌++◌, length, take, drop, filter, Option, Some, None, is_some, inl, inr, refl, sym, ap, ap₂, ◌∙◌, arith, subst, suc-le-suc, zero-le, is_lt}
use Rattle.std.specs.List.{AllByRecursion}
use Rattle.std.specs.List.Sorted.{IsNonDecreasingBy, IsPartitionPoint, ties}
use Rattle.std.specs.Ordering.{nat_cmp}
use Rattle.std.specs.declared.cmp.Ordering.{Ordering}
use Rattle.std.specs.declared.cmp.Ordering.TheVariants.{Less, Equal, Greater}
use Rattle.std.proofs.lemmas.Bool.{cond-true, cases_lt, cases_order, ltb-true, ltb-false, eqb-false, le-ltb, lt-ltb, eq-eqb, ne_eqb}
use Rattle.std.proofs.lemmas.List.{take-append-drop}
use Rattle.std.proofs.lemmas.List.Elements.{filter-append, filter_agree, recursion_from_All}
use Rattle.std.proofs.lemmas.List.Sorted.{IsNonDecreasingBy-drop}
use Rattle.sql_types.specs.declared.entry.TxEntry.{TxEntry}
use Rattle.spec_verify.specs.Entries.{has_id}
use Rattle.audit_verify.specs.Entries.{Placed, ids_from, behind_one, first_with, place_at_head, AreFound}
use Rattle.audit_verify.specs.declared.entries.Entries.{Entries}
use Rattle.audit_columns.proofs.Searches.{none_of, all_taken, all_left, all_map}

-- ---- sorting by id keeps the order of those of one id

tied_is : (m n : ℕ) → not (is_lt (nat_cmp m n)) && not (is_lt (nat_cmp n m)) ≡ (n == m)
tied_is m n = elim (cases_order m n) [
  | inl same ↦ ap₂ (λ (o p : Ordering). not (is_lt o) && not (is_lt p)) (equal m n same) (equal n m (sym same)) ∙ sym (eq-eqb n m (sym same))
  | inr other ↦ elim other [
    | inl less ↦ ap (λ (o : Ordering). not (is_lt o) && not (is_lt (nat_cmp n m))) (below m n less) ∙ sym (ne_eqb n m (λ e. omega (arith, e, less)))
    | inr above ↦ ap₂ (λ (o p : Ordering). not (is_lt o) && not (is_lt p)) (beyond m n above) (below n m above) ∙ sym (ne_eqb n m (λ e. omega (arith, e, above)))
  ]
]
  where
    below : (a b : ℕ) → a < b → nat_cmp a b ≡ Less
    below a b lt = ap (λ (c : Bool). cond c Less (cond (a == b) Equal Greater)) (lt-ltb a b lt)

    equal : (a b : ℕ) → a ≡ b → nat_cmp a b ≡ Equal
    equal a b e =
        ap (λ (c : Bool). cond c Less (cond (a == b) Equal Greater)) (le-ltb a b (omega (arith, e)))
        ∙ ap (λ (c : Bool). cond c Equal Greater) (eq-eqb a b e)

    beyond : (a b : ℕ) → b < a → nat_cmp a b ≡ Greater
    beyond a b lt =
        ap (λ (c : Bool). cond c Less (cond (a == b) Equal Greater)) (le-ltb a b (omega (arith, lt)))
        ∙ ap (λ (c : Bool). cond c Equal Greater) (ne_eqb a b (λ e. omega (arith, e, lt)))

abbrev less_id : Placed → Placed → Bool
less_id p q = is_lt (nat_cmp p.0 q.0)

pub of_one_id : (id : ℕ) (xs ys : List Placed) → filter (ties less_id (id, 0)) ys ≡ filter (ties less_id (id, 0)) xs
    → filter (λ (p : Placed). p.0 == id) ys ≡ filter (λ (p : Placed). p.0 == id) xs
of_one_id id xs ys same =
    let one : (p : Placed) → (p.0 == id) ≡ ties less_id (id, 0) p = λ p. sym (tied_is id p.0) in
    filter_agree (λ (p : Placed). p.0 == id) (ties less_id (id, 0)) one ys ∙ same ∙ sym (filter_agree (λ (p : Placed). p.0 == id) (ties less_id (id, 0)) one xs)

-- ---- what the search finds

module _ (id : ℕ) where
  abbrev has : Placed → Bool
  has p = p.0 == id

  -- none of these is below, and they rise from the first on
  at_head : (p : Placed) (more : List Placed) → id ≤ p.0 → AllByRecursion (λ (q : Placed). p.0 ≤ q.0) more → place_at_head id (p ∷ more) ≡ place_at_head id (filter has (p ∷ more))
  at_head p more low rise = by (has p) refl
    where
      all_above : p.0 ≢ id → AllByRecursion (λ (q : Placed). has q ≡ false) more
      all_above ne = all_map (λ (q : Placed). p.0 ≤ q.0) (λ q. has q ≡ false) (λ q le. ne_eqb q.0 id (λ e. ne (omega (arith, le, low, e)))) more rise

      by : (b : Bool) → has p ≡ b → cond b (Some p.1) None ≡ place_at_head id (cond b (p ∷ filter has more) (filter has more))
      by true e = sym (cond-true (has p) (Some p.1) None e)
      by false e = sym (ap (place_at_head id) (none_of has more (all_above (eqb-false p.0 id e))))

  head_is : (rest : List Placed) → IsNonDecreasingBy (λ (p : Placed). p.0) rest → AllByRecursion (λ (p : Placed). ltb p.0 id ≡ false) rest
      → place_at_head id rest ≡ place_at_head id (filter has rest)
  head_is [] up low = refl
  head_is (p ∷ more) up low = at_head p more (ltb-false p.0 id low.0) (recursion_from_All (λ (q : Placed). p.0 ≤ q.0) more (λ k d lt. up zero (suc k) d zero-le (suc-le-suc lt)))

  pub place_is : (ps : List Placed) (from : ℕ) → IsNonDecreasingBy (λ (p : Placed). p.0) ps → from ≤ length ps
      → IsPartitionPoint (λ (p : Placed). ltb p.0 id ≡ true) (λ (p : Placed). ltb p.0 id ≡ false) ps from → place_at_head id (drop from ps) ≡ place_at_head id (filter has ps)
  place_is ps from up within point =
      let front = all_map (λ (p : Placed). ltb p.0 id ≡ true) (λ p. has p ≡ false) (λ p e. ne_eqb p.0 id (λ same. (let lt : p.0 < id = ltb-true p.0 id e in omega (arith, lt, same)))) (take from ps)
      (all_taken (λ (p : Placed). ltb p.0 id ≡ true) ps from within point.0) in
      head_is (drop from ps) (IsNonDecreasingBy-drop (λ (p : Placed). p.0) from ps up) (all_left (λ (p : Placed). ltb p.0 id ≡ false) ps from point.1)
      ∙ sym (ap (place_at_head id) (
      ap (filter has) (sym (take-append-drop from ps)) ∙ filter-append has (take from ps) (drop from ps)
      ∙ ap (λ (l : List Placed). l ++ filter has (drop from ps)) (none_of has (take from ps) front)))

  -- ---- that is the first entry with the id

  abbrev shifted : ℕ → Option ℕ → Option ℕ
  shifted k None = None
  shifted k (Some p) = Some (k + p)

  one_more : (k : ℕ) (o : Option ℕ) → shifted (k + 1) o ≡ shifted k (behind_one o)
  one_more k None = refl
  one_more k (Some p) = ap (λ (n : ℕ). Some n) (omega arith)

  first_is : (k : ℕ) (es : List TxEntry) → place_at_head id (filter has (ids_from k es)) ≡ shifted k (first_with es id)
  first_is k [] = refl
  first_is k (e ∷ es) = by (e.id == id) refl (first_is (k + 1) es)
    where
      by : (b : Bool) → (e.id == id) ≡ b → place_at_head id (filter has (ids_from (k + 1) es)) ≡ shifted (k + 1) (first_with es id)
          → place_at_head id (cond b ((e.id, k) ∷ filter has (ids_from (k + 1) es)) (filter has (ids_from (k + 1) es))) ≡ shifted k (cond b (Some zero) (behind_one (first_with es id)))
      by true e rest = cond-true _ _ _ e ∙ ap (λ (n : ℕ). Some n) (omega arith)
      by false e rest = rest ∙ one_more k (first_with es id)

  from_none : (o : Option ℕ) → shifted 0 o ≡ o
  from_none None = refl
  from_none (Some p) = ap (λ (n : ℕ). Some n) (omega arith)

  pub found_first : (entries : Entries) (ids rest : List Placed) (from : ℕ) → AreFound entries → ids ≡ entries.by_id.items → rest ≡ drop from ids → from ≤ length ids
      → (IsNonDecreasingBy (λ (p : Placed). p.0) ids → IsPartitionPoint (λ (p : Placed). ltb p.0 id ≡ true) (λ (p : Placed). ltb p.0 id ≡ false) ids from)
      → place_at_head id rest ≡ first_with entries.all.now id
  found_first entries ids rest from are is rest_is within point =
      let up = subst (IsNonDecreasingBy (λ (p : Placed). p.0)) (sym is) are.rise in
      ap (place_at_head id) rest_is ∙ place_is ids from up within (point up)
      ∙ ap (λ (l : List Placed). place_at_head id (filter has l)) is
      ∙ ap (place_at_head id) (are.same id) ∙ first_is 0 entries.all.now ∙ from_none (first_with entries.all.now id)

  -- ---- what it tells

  some_more : (o : Option ℕ) → is_some (behind_one o) ≡ is_some o
  some_more None = refl
  some_more (Some p) = refl

  pub is_there : (es : List TxEntry) → is_some (first_with es id) ≡ has_id es id
  is_there [] = refl
  is_there (e ∷ es) = by (e.id == id) (is_there es)
    where
      by : (b : Bool) → is_some (first_with es id) ≡ has_id es id → is_some (cond b (Some zero) (behind_one (first_with es id))) ≡ (b || has_id es id)
      by true rest = refl
      by false rest = some_more (first_with es id) ∙ rest

  abbrev pub is_below : ℕ → Option ℕ → Bool
  is_below k None = false
  is_below k (Some p) = nat_lt p k

  below_more : (k : ℕ) (o : Option ℕ) → is_below (suc k) (behind_one o) ≡ is_below k o
  below_more k None = refl
  below_more k (Some p) = elim (cases_lt p k) [
    | inl lt ↦ lt-ltb (suc p) (suc k) (omega (arith, lt)) ∙ sym (lt-ltb p k lt)
    | inr le ↦ le-ltb (suc p) (suc k) (omega (arith, le)) ∙ sym (le-ltb p k le)
  ]

  none_below : (o : Option ℕ) → is_below zero o ≡ false
  none_below None = refl
  none_below (Some p) = le-ltb p zero zero-le

  pub is_before : (k : ℕ) (es : List TxEntry) → is_below k (first_with es id) ≡ has_id (take k es) id
  is_before k [] = ap (λ (l : List TxEntry). has_id l id) (sym (nothing k))
    where
      nothing : (k : ℕ) → take {A = TxEntry} k [] ≡ []
      nothing zero = refl
      nothing (suc k) = refl
  is_before zero (e ∷ es) = none_below (first_with (e ∷ es) id)
  is_before (suc k) (e ∷ es) = by (e.id == id) (is_before k es)
    where
      by : (b : Bool) → is_below k (first_with es id) ≡ has_id (take k es) id → is_below (suc k) (cond b (Some zero) (behind_one (first_with es id))) ≡ (b || has_id (take k es) id)
      by true rest = lt-ltb zero (suc k) (omega arith)
      by false rest = below_more k (first_with es id) ∙ rest
