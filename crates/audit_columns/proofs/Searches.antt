-- In a list that doesn't fall by a number, those of one number stand together, and two searches find them.
use Rattle.std.proofs.Common.{◌≡◌, ◌≤◌, ◌<◌, ◌+◌, ltb, leb, ◌==◌, ℕ, Bool, true, false, List, [], ◌∷◌, ◌++◌, length, get_or, take, drop, filter, refl, arith, sym, ◌∙◌, ap, subst, length-take, length-drop}
use Rattle.std.specs.List.{AllByRecursion}
use Rattle.std.specs.List.Sorted.{IsNonDecreasingBy, IsPartitionedBy, IsPartitionPoint}
use Rattle.std.proofs.lemmas.Bool.{cond-true, cond-false, ne_eqb, eq-eqb, ltb-true, ltb-false, leb-true, leb-false}
use Rattle.std.proofs.lemmas.List.{take-append-drop, append-nil, get_or-take, get_or-drop}
use Rattle.std.proofs.lemmas.List.Elements.{filter-append, recursion_from_All}
use Rattle.std.proofs.lemmas.List.Sorted.{IsNonDecreasingBy-drop, IsPartitionedBy-leb}

module _ {X : Type 0} where
  pub none_of : (p : X → Bool) (ys : List X) → AllByRecursion (λ y. p y ≡ false) ys → filter p ys ≡ []
  none_of p [] all = refl
  none_of p (y ∷ ys) all = cond-false (p y) (y ∷ filter p ys) (filter p ys) all.0 ∙ none_of p ys all.1

  pub all_of : (p : X → Bool) (ys : List X) → AllByRecursion (λ y. p y ≡ true) ys → filter p ys ≡ ys
  all_of p [] all = refl
  all_of p (y ∷ ys) all = cond-true (p y) (y ∷ filter p ys) (filter p ys) all.0 ∙ ap (λ (l : List X). y ∷ l) (all_of p ys all.1)

  -- what holds of each element before a place
  pub all_taken : (P : X → Type 0) (ys : List X) (n : ℕ) → n ≤ length ys → ((k : ℕ) (d : X) → 0 ≤ k → k < n → P (get_or ys k d)) → AllByRecursion P (take n ys)
  all_taken P ys n le h =
      recursion_from_All P (take n ys) (λ k d lt.
      let l = length-take n ys in
      let small : k < n = omega (arith, lt, l, le) in
      subst P (sym (get_or-take n ys k d small)) (h k d (omega arith) small))

  -- and from it on
  pub all_left : (P : X → Type 0) (ys : List X) (n : ℕ) → ((k : ℕ) (d : X) → n ≤ k → k < length ys → P (get_or ys k d)) → AllByRecursion P (drop n ys)
  all_left P ys n h =
      recursion_from_All P (drop n ys) (λ k d lt.
      let l = length-drop n ys in
      subst P (sym (get_or-drop n ys k d)) (h (n + k) d (omega arith) (omega (arith, lt, l))))

  all_front : (P : X → Type 0) (xs zs : List X) → AllByRecursion P (xs ++ zs) → AllByRecursion P xs
  all_front P [] zs all = tt
  all_front P (x ∷ xs) zs all = (all.0, all_front P xs zs all.1)

  pub all_map : (P Q : X → Type 0) → ((x : X) → P x → Q x) → (xs : List X) → AllByRecursion P xs → AllByRecursion Q xs
  all_map P Q f [] all = tt
  all_map P Q f (x ∷ xs) all = (f x all.0, all_map P Q f xs all.1)

  all_two : (P Q R : X → Type 0) → ((x : X) → P x → Q x → R x) → (xs : List X) → AllByRecursion P xs → AllByRecursion Q xs → AllByRecursion R xs
  all_two P Q R f [] all both = tt
  all_two P Q R f (x ∷ xs) all both = (f x all.0 both.0, all_two P Q R f xs all.1 both.1)

module _ {X : Type 0} (n : X → ℕ) (t : ℕ) where
  abbrev has : X → Bool
  has y = n y == t

  less_not : (y : X) → ltb (n y) t ≡ true → has y ≡ false
  less_not y e = let lt : n y < t = ltb-true (n y) t e in ne_eqb (n y) t (λ same. absurd (omega (arith, lt, same)))

  above_not : (y : X) → leb (n y) t ≡ false → has y ≡ false
  above_not y e = let lt : t < n y = leb-false (n y) t e in ne_eqb (n y) t (λ same. absurd (omega (arith, lt, same)))

  between : (y : X) → ltb (n y) t ≡ false → leb (n y) t ≡ true → has y ≡ true
  between y e f =
      let low : t ≤ n y = ltb-false (n y) t e in
      let high : n y ≤ t = leb-true (n y) t f in
      eq-eqb (n y) t (omega (arith, low, high))

  -- the second search goes on where the first ended
  pub up_to : (ys : List X) (from : ℕ) (rest : List X) → rest ≡ drop from ys → IsNonDecreasingBy n ys → IsPartitionedBy (λ y. leb (n y) t) rest
  up_to ys from rest is up = subst (IsPartitionedBy (λ y. leb (n y) t)) (sym is) (IsPartitionedBy-leb n (drop from ys) t (IsNonDecreasingBy-drop n from ys up))

  found : (ys : List X) (from count : ℕ) → from ≤ length ys → count ≤ length (drop from ys)
      → IsPartitionPoint (λ y. ltb (n y) t ≡ true) (λ y. ltb (n y) t ≡ false) ys from
      → IsPartitionPoint (λ y. leb (n y) t ≡ true) (λ y. leb (n y) t ≡ false) (drop from ys) count
      → take count (drop from ys) ≡ filter has ys
  found ys from count low high one two =
      let rest = drop from ys in
      let front = all_map (λ y. ltb (n y) t ≡ true) (λ y. has y ≡ false) less_not (take from ys) (all_taken (λ y. ltb (n y) t ≡ true) ys from low one.0) in
      let back = all_map (λ y. leb (n y) t ≡ false) (λ y. has y ≡ false) above_not (drop count rest) (all_left (λ y. leb (n y) t ≡ false) rest count two.1) in
      let later = all_left (λ y. ltb (n y) t ≡ false) ys from one.1 in
      let middle = all_two (λ y. ltb (n y) t ≡ false) (λ y. leb (n y) t ≡ true) (λ y. has y ≡ true) between (take count rest)
      (all_front (λ y. ltb (n y) t ≡ false) (take count rest) (drop count rest) (subst (AllByRecursion (λ y. ltb (n y) t ≡ false)) (sym (take-append-drop count rest)) later))
      (all_taken (λ y. leb (n y) t ≡ true) rest count high two.0) in
      sym (
      ap (filter has) (sym (take-append-drop from ys))
      ∙ filter-append has (take from ys) rest
      ∙ ap (λ (l : List X). l ++ filter has rest) (none_of has (take from ys) front)
      ∙ ap (filter has) (sym (take-append-drop count rest))
      ∙ filter-append has (take count rest) (drop count rest)
      ∙ ap (λ (l : List X). l ++ filter has (drop count rest)) (all_of has (take count rest) middle)
      ∙ ap (λ (l : List X). take count rest ++ l) (none_of has (drop count rest) back)
      ∙ append-nil (take count rest))

  pub run_is : (ys : List X) (from count : ℕ) (rest own : List X) → rest ≡ drop from ys → own ≡ take count rest → from ≤ length ys → count ≤ length rest
      → IsPartitionPoint (λ y. ltb (n y) t ≡ true) (λ y. ltb (n y) t ≡ false) ys from
      → IsPartitionPoint (λ y. leb (n y) t ≡ true) (λ y. leb (n y) t ≡ false) rest count
      → own ≡ filter has ys
  run_is ys from count rest own is own_is low high one two =
      own_is ∙ ap (take count) is
      ∙ found ys from count low (subst (λ (l : List X). count ≤ length l) is high) one
      (subst (λ (l : List X). IsPartitionPoint (λ y. leb (n y) t ≡ true) (λ y. leb (n y) t ≡ false) l count) is two)
