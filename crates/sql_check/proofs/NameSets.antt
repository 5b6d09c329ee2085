-- The set of the names behind one of a list.
use Rattle.std.proofs.Common.{◌≡◌, ◌∙◌, ◌<◌, ◌≤◌, ◌-◌, Bool, true, false, cond, ℕ, zero, suc, List, [], ◌∷◌, ◌||◌, refl, sym, ap, ap₂, arith, drop, drop-cons, get_or, length, map, not}
use Rattle.std.specs.Borrow.{Bor}
use Rattle.std.specs.BTreeSet.{BTreeSet, Updates}
use Rattle.std.specs.Cmp.Lexicographic.{slice_cmp}
use Rattle.std.specs.Ordering.{nat_cmp}
use Rattle.std.specs.Str.{bytes_eq}
use Rattle.std.proofs.lemmas.Map.Text.{is_eq-slice_cmp}
use Rattle.spec_model.specs.Lists.{has_name, repeats}
use Rattle.sql_check.specs.NameSet.{has}

or_cond : (t b : Bool) → cond t true b ≡ (t || b)
or_cond true b = refl
or_cond false b = refl

-- a name is in the set with one more exactly where it is that one or was in it
pub added : (names more : BTreeSet (Bor (List ℕ))) (name : Bor (List ℕ)) → Updates (λ x y. slice_cmp nat_cmp x.now y.now) names more name true
    → (q : List ℕ) → has more q ≡ (bytes_eq name.now q || has names q)
added names more name updates q =
    let one : Bor (List ℕ) = record { ref_ptr = (0, 0); now = q } in
    updates.0 one ∙ (ap (λ t. cond t true (has names q)) (is_eq-slice_cmp name.now q) ∙ or_cond (bytes_eq name.now q) (has names q))

or_true : (b : Bool) → (b || true) ≡ true
or_true true = refl
or_true false = refl

-- where a name of the rear of a list stands twice there, one of the list does
pub repeats_before : {A : Type 0} (f : A → List ℕ) (n : ℕ) (items : List A) → repeats (map f (drop n items)) ≡ true → repeats (map f items) ≡ true
repeats_before f zero items h = h
repeats_before f (suc n) [] h = h
repeats_before f (suc n) (x ∷ xs) h = ap (λ b. has_name (map f xs) (f x) || b) (repeats_before f n xs h) ∙ or_true (has_name (map f xs) (f x))

-- where the name of an item stands behind it too, a name stands twice
pub stands_behind : {A : Type 0} (f : A → List ℕ) (items : List A) (at : ℕ) (x : A) → 0 < at → at ≤ length items → x ≡ get_or items (at - 1) x
    → has_name (map f (drop at items)) (f x) ≡ true → repeats (map f items) ≡ true
stands_behind f items at x some within is found =
    let lt : at - 1 < length items = omega (arith, some, within) in
    let next : suc (at - 1) ≡ at = omega (arith, some) in
    let front : drop (at - 1) items ≡ x ∷ drop at items = drop-cons items (at - 1) x lt ∙ ap₂ (λ y k. y ∷ drop k items) (sym is) next in
    repeats_before f (at - 1) items (ap (λ l. repeats (map f l)) front ∙ ap (λ b. b || repeats (map f (drop at items))) found)

-- what isn't new was there
pub known : (there new : Bool) → new ≡ not there → new ≡ false → there ≡ true
known true new is old = refl
known false new is old = sym old ∙ is
