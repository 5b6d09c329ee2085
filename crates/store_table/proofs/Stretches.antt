-- The starts in a stretch of an order.
use Rattle.std.proofs.Common.{◌≡◌, ◌<◌, ◌≤◌, ◌+◌, ◌-◌, ℕ, zero, suc, refl, sym, ap, ◌∙◌, List, [], ◌∷◌, ◌++◌, length, get_or, take, drop, Option, Some, None, filter_map, append_assoc, arith}
use Rattle.std.specs.Prelude.{slice_get}
use Rattle.sql_types.specs.declared.version.Version.{Version}
use Rattle.spec_model.specs.Rows.{EventId}
use Rattle.store_table.specs.Orders.{version_at, version_of}

same_some : {A : Type 0} (x y : A) → (let o : Option A = Some x in let p : Option A = Some y in o ≡ p) → x ≡ y
same_some x y e = cc

pub start_there : (order : List EventId) (n : ℕ) (e : EventId) → slice_get order n ≡ Some e → (n < length order) × (e ≡ get_or order n e)
start_there [] n e is = absurd cc
start_there (x ∷ xs) zero e is = (omega arith, sym (same_some x e is))
start_there (x ∷ xs) (suc n) e is = let rest = start_there xs n e is in let inside = rest.0 in (omega (arith, inside), rest.1)

pub start_nowhere : (order : List EventId) (n : ℕ) → slice_get order n ≡ None → length order ≤ n
start_nowhere [] n is = omega arith
start_nowhere (x ∷ xs) zero is = absurd cc
start_nowhere (x ∷ xs) (suc n) is = let rest = start_nowhere xs n is in omega (arith, rest)

-- ---- one place after another

take_one : {A : Type 0} (n : ℕ) (x : A) (xs : List A) → 0 < n → take n (x ∷ xs) ≡ x ∷ take (n - 1) xs
take_one zero x xs some = absurd (omega (arith, some))
take_one (suc n) x xs some = ap (λ (k : ℕ). x ∷ take k xs) (let k : n ≡ suc n - 1 = omega arith in k)

drop_one : (order : List EventId) (n : ℕ) (e : EventId) → slice_get order n ≡ Some e → drop n order ≡ e ∷ drop (n + 1) order
drop_one [] n e is = absurd cc
drop_one (x ∷ xs) zero e is = ap (λ (y : EventId). y ∷ xs) (same_some x e is)
drop_one (x ∷ xs) (suc n) e is = drop_one xs n e is ∙ ap (λ (k : ℕ). e ∷ drop k (x ∷ xs)) (let k : suc (n + 1) ≡ suc n + 1 = omega arith in k)

drop_none : (order : List EventId) (n : ℕ) → length order ≤ n → drop n order ≡ []
drop_none [] zero beyond = refl
drop_none [] (suc n) beyond = refl
drop_none (x ∷ xs) zero beyond = absurd (omega (arith, beyond))
drop_none (x ∷ xs) (suc n) beyond = drop_none xs n (omega (arith, beyond))

take_none : {A : Type 0} (n : ℕ) → (let none : List A = [] in take n none ≡ none)
take_none zero = refl
take_none (suc n) = refl

-- the stretch from a place on, with the start that stands there
pub stretch_more : (order : List EventId) (n behind : ℕ) (e : EventId) → n < behind → slice_get order n ≡ Some e
    → take (behind - n) (drop n order) ≡ e ∷ take (behind - (n + 1)) (drop (n + 1) order)
stretch_more order n behind e inside is =
    ap (take (behind - n)) (drop_one order n e is)
    ∙ take_one (behind - n) e (drop (n + 1) order) (omega (arith, inside))
    ∙ ap (λ (k : ℕ). e ∷ take k (drop (n + 1) order)) (let k : behind - n - 1 ≡ behind - (n + 1) = omega arith in k)

-- it is empty behind the last start
pub stretch_none : (order : List EventId) (n k : ℕ) → length order ≤ n → take k (drop n order) ≡ []
stretch_none order n k beyond = ap (take k) (drop_none order n beyond) ∙ take_none k

-- ---- the versions of these starts

module _ (order : List EventId) (vs : List Version) (n behind : ℕ) (inside : n < behind) where
  abbrev found_from : ℕ → List Version
  found_from m = filter_map (λ s. version_at s vs) (take (behind - m) (drop m order))

  found_more : (v : Version) → Some v ≡ version_of (slice_get order n) vs → found_from n ≡ v ∷ found_from (n + 1)
  found_more v = by (slice_get order n) refl
    where
      by : (o : Option EventId) → slice_get order n ≡ o → Some v ≡ version_of o vs → found_from n ≡ v ∷ found_from (n + 1)
      by (Some e) is found =
          let one : version_at e vs ≡ Some v = sym found in
          ap (filter_map (λ s. version_at s vs)) (stretch_more order n behind e inside is) ∙ rw one refl
      by None is found = absurd cc

  found_none : None ≡ version_of (slice_get order n) vs → found_from n ≡ found_from (n + 1)
  found_none = by (slice_get order n) refl
    where
      by : (o : Option EventId) → slice_get order n ≡ o → None ≡ version_of o vs → found_from n ≡ found_from (n + 1)
      by (Some e) is found =
          let one : version_at e vs ≡ None = sym found in
          ap (filter_map (λ s. version_at s vs)) (stretch_more order n behind e inside is) ∙ rw one refl
      by None is found =
          let beyond = start_nowhere order n is in
          ap (filter_map (λ s. version_at s vs)) (stretch_none order n (behind - n) beyond ∙ sym (stretch_none order (n + 1) (behind - (n + 1)) (omega (arith, beyond))))

  -- found so far, and to be found from the next place on
  pub next_found : (whole before after : List Version) (v : Version) → Some v ≡ version_of (slice_get order n) vs → before ++ found_from n ≡ whole → after ≡ before ++ v ∷ []
      → after ++ found_from (n + 1) ≡ whole
  next_found whole before after v found so_far grown =
      ap (λ l. l ++ found_from (n + 1)) grown
      ∙ append_assoc before (v ∷ []) (found_from (n + 1))
      ∙ ap (λ l. before ++ l) (sym (found_more v found))
      ∙ so_far

  pub next_none : (whole before after : List Version) → None ≡ version_of (slice_get order n) vs → before ++ found_from n ≡ whole → after ≡ before → after ++ found_from (n + 1) ≡ whole
  next_none whole before after none so_far same =
      ap (λ l. l ++ found_from (n + 1)) same ∙ ap (λ l. before ++ l) (sym (found_none none)) ∙ so_far

-- an order from its first place on
pub stretch_whole : (order : List EventId) → take (length order - 0) (drop 0 order) ≡ order
stretch_whole order = take_long (length order - 0) order (omega arith)
  where
    take_long : (n : ℕ) (xs : List EventId) → length xs ≤ n → take n xs ≡ xs
    take_long zero [] le = refl
    take_long (suc n) [] le = refl
    take_long zero (x ∷ xs) le = absurd (omega (arith, le))
    take_long (suc n) (x ∷ xs) le = ap (λ l. x ∷ l) (take_long n xs (omega (arith, le)))
