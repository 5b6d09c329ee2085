-- Lists that are sorted by a number of each element.
use Rattle.std.proofs.Common.{◌≡◌, ◌≢◌, ◌⊎◌, ℕ, suc, ◌+◌, ◌<◌, ◌≤◌, Bool, true, false, List, [], ◌∷◌, length, map, refl, sym, ap, ap₂, ◌∙◌, subst, inl, inr, ⊎_elim, arith}
use Rattle.std.proofs.lemmas.Bool.{cases_lt}
use Rattle.std.proofs.lemmas.Bool.Decides.{nat_tests}
use Rattle.std.specs.Prelude.{not, nat_le, nat_lt, cond, Option, Some, None, if◌then◌else◌}
use Rattle.std.specs.List.{filter, insert, position, position_or_len}
use Rattle.std.specs.Option.{unwrap_or}
use Rattle.std.proofs.lemmas.List.Sums.{prefix_len-le-length}
use Rattle.std.specs.declared.cmp.Ordering.{Ordering}
use Rattle.std.specs.Ordering.{nat_cmp, is_gt}
use Rattle.std.specs.Cmp.{nat_cmp_is}
use Rattle.std.specs.declared.cmp.Ordering.TheVariants.{Less, Equal, Greater}
use Rattle.spec_model.specs.Lists.{inserted, sorted}
use Rattle.spec_protocol.specs.Lists.{Each, In}
use Rattle.spec_protocol.specs.Serial.{Differ}

pub each_in : {A : Type 0} (P : A → Type 0) (xs : List A) (x : A) → Each P xs → In x xs → P x
each_in P [] x e i = absurd i
each_in P (y ∷ ys) x e i = ⊎_elim (λ (q : y ≡ x). subst P q e.0) (λ (k : In x ys). each_in P ys x e.1 k) i

pub in_each : {A : Type 0} (P : A → Type 0) (xs : List A) → ((x : A) → In x xs → P x) → Each P xs
in_each P [] f = tt
in_each P (y ∷ ys) f = (f y (inl refl), in_each P ys (λ x i. f x (inr i)))

-- the order of two numbers, as a test
pub greater_is : (a b : ℕ) → nat_le a b ≡ not (is_gt (nat_cmp a b))
greater_is a b = ⊎_elim
    (λ (l : a < b). let le : nat_le a b ≡ true = grind (arith, nat_tests, l) in let c : Less ≡ nat_cmp a b = nat_cmp_is a b Less l in le ∙ ap (λ o. not (is_gt o)) c)
    (λ (k : b ≤ a). ⊎_elim
    (λ (l : b < a). let le : nat_le a b ≡ false = grind (arith, nat_tests, l) in let c : Greater ≡ nat_cmp a b = nat_cmp_is a b Greater l in le ∙ ap (λ o. not (is_gt o)) c)
    (λ (m : a ≤ b). let e : a ≡ b = omega (arith, k, m) in let le : nat_le a b ≡ true = grind (arith, nat_tests, m) in let c : Equal ≡ nat_cmp a b = nat_cmp_is a b Equal e in le ∙ ap (λ o. not (is_gt o)) c)
    (cases_lt b a))
    (cases_lt a b)

-- the first place that passes, or the end
pub place_within : {A : Type 0} (p : A → Bool) (xs : List A) → position_or_len p xs ≤ length xs
place_within p xs = prefix_len-le-length (λ x. not (p x)) xs

pub place_is : {A : Type 0} (p : A → Bool) (xs : List A) (o : Option ℕ) → o ≡ position p xs → unwrap_or o (length xs) ≡ position_or_len p xs
place_is p xs o e = ap (λ q. unwrap_or q (length xs)) e ∙ by (nat_lt (position_or_len p xs) (length xs)) refl
  where
    by : (b : Bool) → nat_lt (position_or_len p xs) (length xs) ≡ b → unwrap_or (cond b (Some (position_or_len p xs)) None) (length xs) ≡ position_or_len p xs
    by true q = refl
    by false q = let le = place_within p xs in let no_less : length xs ≤ position_or_len p xs = grind (arith, nat_tests, q) in omega (arith, le, no_less)

module _ {A : Type 0} (key : A → ℕ) where
  abbrev by_key : A → A → Ordering
  by_key x y = nat_cmp (key x) (key y)

  -- strictly
  abbrev pub RisesBy : List A → Type 0
  RisesBy [] = Unit {0}
  RisesBy (x ∷ xs) = Each (λ y. key x < key y) xs × RisesBy xs

  -- ---- one is inserted

  pub insert_is : (x : A) (xs : List A) → insert xs (position_or_len (λ y. nat_le (key x) (key y)) xs) x ≡ inserted by_key x xs
  insert_is x [] = refl
  insert_is x (y ∷ ys) = by (is_gt (by_key x y)) refl (insert_is x ys)
    where
      by : (b : Bool) → is_gt (by_key x y) ≡ b → insert ys (position_or_len (λ z. nat_le (key x) (key z)) ys) x ≡ inserted by_key x ys
          → insert (y ∷ ys) (position_or_len (λ z. nat_le (key x) (key z)) (y ∷ ys)) x ≡ (if b then y ∷ inserted by_key x ys else x ∷ y ∷ ys)
      by true e rest =
          let le : nat_le (key x) (key y) ≡ false = greater_is (key x) (key y) ∙ ap not e in
          let next : 1 + position_or_len (λ z. nat_le (key x) (key z)) ys ≡ suc (position_or_len (λ z. nat_le (key x) (key z)) ys) = omega arith in
          rw (le, next) (ap (λ l. y ∷ l) rest)
      by false e rest = let le : nat_le (key x) (key y) ≡ true = greater_is (key x) (key y) ∙ ap not e in rw le refl

  pub each_inserted : (P : A → Type 0) (x : A) (xs : List A) → P x → Each P xs → Each P (inserted by_key x xs)
  each_inserted P x [] p e = (p, tt)
  each_inserted P x (y ∷ ys) p e = by (is_gt (by_key x y)) (each_inserted P x ys p e.1)
    where
      by : (b : Bool) → Each P (inserted by_key x ys) → Each P (if b then y ∷ inserted by_key x ys else x ∷ y ∷ ys)
      by true rest = (e.0, rest)
      by false rest = (p, e)

  pub in_inserted : (w x : A) (xs : List A) → (x ≡ w) ⊎ In w xs → In w (inserted by_key x xs)
  in_inserted w x [] i = i
  in_inserted w x (y ∷ ys) i = by (is_gt (by_key x y)) (λ k. in_inserted w x ys k)
    where
      by : (b : Bool) → ((x ≡ w) ⊎ In w ys → In w (inserted by_key x ys)) → In w (if b then y ∷ inserted by_key x ys else x ∷ y ∷ ys)
      by true rest = ⊎_elim (λ (e : x ≡ w). inr (rest (inl e))) (λ (k : In w (y ∷ ys)). ⊎_elim (λ (e : y ≡ w). inl e) (λ (l : In w ys). inr (rest (inr l))) k) i
      by false rest = i

  greater_so : (a b : ℕ) → is_gt (nat_cmp a b) ≡ true → b < a
  greater_so a b e = let le : nat_le a b ≡ false = greater_is a b ∙ ap not e in grind (arith, nat_tests, le)

  at_most_so : (a b : ℕ) → is_gt (nat_cmp a b) ≡ false → a ≤ b
  at_most_so a b e = let le : nat_le a b ≡ true = greater_is a b ∙ ap not e in grind (arith, nat_tests, le)

  weaker : (n m : ℕ) (xs : List A) → n < m → Each (λ y. m < key y) xs → Each (λ y. n < key y) xs
  weaker n m [] l e = tt
  weaker n m (x ∷ xs) l e = (omega (arith, l, e.0), weaker n m xs l e.1)

  pub insert_rises : (x : A) (xs : List A) → RisesBy xs → Each (λ y. key y ≢ key x) xs → RisesBy (inserted by_key x xs)
  insert_rises x [] r ne = (tt, tt)
  insert_rises x (y ∷ ys) r ne = by (is_gt (by_key x y)) refl (insert_rises x ys r.1 ne.1)
    where
      by : (b : Bool) → is_gt (by_key x y) ≡ b → RisesBy (inserted by_key x ys) → RisesBy (if b then y ∷ inserted by_key x ys else x ∷ y ∷ ys)
      by true e rest = (each_inserted (λ z. key y < key z) x ys (greater_so (key x) (key y) e) r.0, rest)
      by false e rest = let l : key x < key y = omega (arith, at_most_so (key x) (key y) e, ne.0) in ((l, weaker (key x) (key y) ys l r.0), r)

  -- ---- all are sorted, those that pass a test

  pub each_sorted : (P : A → Type 0) (xs : List A) → Each P xs → Each P (sorted by_key xs)
  each_sorted P [] e = tt
  each_sorted P (x ∷ xs) e = each_inserted P x (sorted by_key xs) e.0 (each_sorted P xs e.1)

  pub in_sorted : (w : A) (xs : List A) → In w xs → In w (sorted by_key xs)
  in_sorted w [] i = absurd i
  in_sorted w (x ∷ xs) i = in_inserted w x (sorted by_key xs) (⊎_elim (λ (e : x ≡ w). inl e) (λ (k : In w xs). inr (in_sorted w xs k)) i)

  module _ (test : A → Bool) where
    pub each_kept : (P : A → Type 0) (xs : List A) → Each P xs → Each (λ x. P x × (test x ≡ true)) (filter test xs)
    each_kept P [] e = tt
    each_kept P (x ∷ xs) e = by (test x) refl (each_kept P xs e.1)
      where
        by : (b : Bool) → test x ≡ b → Each (λ x. P x × (test x ≡ true)) (filter test xs) → Each (λ x. P x × (test x ≡ true)) (if b then x ∷ filter test xs else filter test xs)
        by true t rest = ((e.0, t), rest)
        by false t rest = rest

    pub in_kept : (w : A) (xs : List A) → test w ≡ true → In w xs → In w (filter test xs)
    in_kept w [] e i = absurd i
    in_kept w (x ∷ xs) e i = by (test x) refl (λ k. in_kept w xs e k)
      where
        by : (b : Bool) → test x ≡ b → (In w xs → In w (filter test xs)) → In w (if b then x ∷ filter test xs else filter test xs)
        by true f rest = ⊎_elim (λ (g : x ≡ w). inl g) (λ (k : In w xs). inr (rest k)) i
        by false f rest = ⊎_elim (λ (g : x ≡ w). absurd (let never : true ≡ false = sym e ∙ ap test (sym g) ∙ f in cc)) (λ (k : In w xs). rest k) i

    keys_differ : (n : ℕ) (xs : List A) → Each (λ k. n ≢ k) (map key xs) → Each (λ y. key y ≢ n) xs
    keys_differ n [] e = tt
    keys_differ n (x ∷ xs) e = ((λ q. e.0 (sym q)), keys_differ n xs e.1)

    first_of_each : (P Q : A → Type 0) (xs : List A) → Each (λ x. P x × Q x) xs → Each P xs
    first_of_each P Q [] e = tt
    first_of_each P Q (x ∷ xs) e = (e.0.0, first_of_each P Q xs e.1)

    pub sorting_rises : (xs : List A) → Differ (map key xs) → RisesBy (sorted by_key (filter test xs))
    sorting_rises [] d = tt
    sorting_rises (x ∷ xs) d = by (test x) (sorting_rises xs d.1)
      where
        by : (b : Bool) → RisesBy (sorted by_key (filter test xs)) → RisesBy (sorted by_key (if b then x ∷ filter test xs else filter test xs))
        by true rest = insert_rises x (sorted by_key (filter test xs)) rest
            (each_sorted (λ y. key y ≢ key x) (filter test xs) (first_of_each (λ y. key y ≢ key x) (λ y. test y ≡ true) (filter test xs) (each_kept (λ y. key y ≢ key x) xs (keys_differ (key x) xs d.0))))
        by false rest = rest

  -- ---- two that rise and have the same elements are one

  pub same_list : (xs ys : List A) → RisesBy xs → RisesBy ys → ((z : A) → In z xs → In z ys) → ((z : A) → In z ys → In z xs) → xs ≡ ys
  same_list [] [] a b f g = refl
  same_list [] (y ∷ ys) a b f g = absurd (g y (inl refl))
  same_list (x ∷ xs) [] a b f g = absurd (f x (inl refl))
  same_list (x ∷ xs) (y ∷ ys) a b f g = ap₂ (λ (z : A) (zs : List A). z ∷ zs) head (same_list xs ys a.1 b.1 later_of earlier_of)
    where
      above_x : (z : A) → In z xs → key x < key z
      above_x z i = each_in (λ (y : A). key x < key y) xs z a.0 i

      above_y : (z : A) → In z ys → key y < key z
      above_y z i = each_in (λ (x : A). key y < key x) ys z b.0 i

      head : x ≡ y
      head = ⊎_elim (λ (e : y ≡ x). sym e) (λ (i : In x ys). ⊎_elim (λ (e : x ≡ y). e) (λ (k : In y xs). absurd (omega (arith, above_y x i, above_x y k))) (g y (inl refl))) (f x (inl refl))

      same : key x ≡ key y
      same = ap key head

      later_of : (z : A) → In z xs → In z ys
      later_of z i = ⊎_elim (λ (e : y ≡ z). absurd (omega (arith, above_x z i, same, ap key e))) (λ (k : In z ys). k) (f z (inr i))

      earlier_of : (z : A) → In z ys → In z xs
      earlier_of z i = ⊎_elim (λ (e : x ≡ z). absurd (omega (arith, above_y z i, same, ap key e))) (λ (k : In z xs). k) (g z (inr i))
