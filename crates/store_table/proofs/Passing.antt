-- Indexes that are changed one after another.
use Rattle.std.proofs.Common.{◌≡◌, ◌<◌, ◌+◌, ℕ, zero, suc, refl, sym, ap, subst, ◌∙◌, List, [], ◌∷◌, ◌++◌, map, length, get_or, take, drop, arith}
use Rattle.std.specs.Prelude.{slice_set}
use Rattle.std.proofs.Math.Seq.{take-append_seam}
use Rattle.std.proofs.lemmas.List.{length-map}
use Rattle.std.specs.List.{AllByRecursion}
use Rattle.store_table.specs.Kept.{HasCapacity}
use Rattle.store_table.specs.declared.index.Index.{Index}

-- the first so many are as they are to be, the others as they were
pub record Passing {X : Type 0} (f : Index → X) (P Q : Index → Type 0) (was now : List Index) (i : ℕ) : Type 0 where
  pub done : AllByRecursion P (take i now)
  pub left : AllByRecursion Q (drop i now)
  pub same : map f now ≡ map f was
  pub room : (n : ℕ) → AllByRecursion (HasCapacity n) was → AllByRecursion (HasCapacity n) now

done_more : (P : Index → Type 0) (xs : List Index) (i : ℕ) (y : Index) → i < length xs → P y → AllByRecursion P (take i xs) → AllByRecursion P (take (suc i) (slice_set xs i y))
done_more P [] i y inside p h = absurd (omega (arith, inside))
done_more P (x ∷ xs) zero y inside p h = (p, tt)
done_more P (x ∷ xs) (suc i) y inside p h = (h.0, done_more P xs i y (omega (arith, inside)) p h.1)

left_less : (Q : Index → Type 0) (xs : List Index) (i : ℕ) (y : Index) → i < length xs → AllByRecursion Q (drop i xs) → AllByRecursion Q (drop (suc i) (slice_set xs i y))
left_less Q [] i y inside h = absurd (omega (arith, inside))
left_less Q (x ∷ xs) zero y inside h = h.1
left_less Q (x ∷ xs) (suc i) y inside h = left_less Q xs i y (omega (arith, inside)) h

map_set : {X : Type 0} (f : Index → X) (xs : List Index) (i : ℕ) (x y : Index) → i < length xs → x ≡ get_or xs i x → f y ≡ f x → map f (slice_set xs i y) ≡ map f xs
map_set f [] i x y inside is e = absurd (omega (arith, inside))
map_set f (z ∷ zs) zero x y inside is e = ap (λ a. a ∷ map f zs) (e ∙ ap f is)
map_set f (z ∷ zs) (suc i) x y inside is e = ap (λ l. f z ∷ l) (map_set f zs i x y (omega (arith, inside)) is e)

all_set : (P : Index → Type 0) (xs : List Index) (i : ℕ) (x y : Index) → i < length xs → x ≡ get_or xs i x → (P x → P y) → AllByRecursion P xs → AllByRecursion P (slice_set xs i y)
all_set P [] i x y inside is g h = absurd (omega (arith, inside))
all_set P (z ∷ zs) zero x y inside is g h = (g (subst P (sym is) h.0), h.1)
all_set P (z ∷ zs) (suc i) x y inside is g h = (h.0, all_set P zs i x y (omega (arith, inside)) is g h.1)

module _ {X : Type 0} (f : Index → X) (P Q : Index → Type 0) (was now : List Index) (i : ℕ) (h : Passing f P Q was now i) where
  pub passing_step : (x y : Index) → i < length now → x ≡ get_or now i x → P y → f y ≡ f x → ((n : ℕ) → HasCapacity n x → HasCapacity n y) → Passing f P Q was (slice_set now i y) (i + 1)
  passing_step x y inside is p same room = subst (λ (n : ℕ). Passing f P Q was (slice_set now i y) n) {x = suc i} (omega arith)
      (record {
        done = done_more P now i y inside p h.done;
        left = left_less Q now i y inside h.left;
        same = map_set f now i x y inside is same ∙ h.same;
        room = λ n r. all_set (HasCapacity n) now i x y inside is (room n) (h.room n r);
      })

  -- also where the call failed
  pub same_step : (x y : Index) → i < length now → x ≡ get_or now i x → f y ≡ f x → map f (slice_set now i y) ≡ map f was
  same_step x y inside is same = map_set f now i x y inside is same ∙ h.same

  pub room_step : (x y : Index) → i < length now → x ≡ get_or now i x → ((n : ℕ) → HasCapacity n x → HasCapacity n y) → (n : ℕ) → AllByRecursion (HasCapacity n) was → AllByRecursion (HasCapacity n) (slice_set now i y)
  room_step x y inside is room n r = all_set (HasCapacity n) now i x y inside is (room n) (h.room n r)

pub passing_first : {X : Type 0} (f : Index → X) (P Q : Index → Type 0) (was now : List Index) → now ≡ was → AllByRecursion Q was → Passing f P Q was now 0
passing_first f P Q was now same h = subst (λ l. Passing f P Q was l 0) (sym same) (record { done = tt; left = h; same = refl; room = λ n r. r })

pub same_length : {X : Type 0} (f : Index → X) (was now : List Index) → map f now ≡ map f was → length now ≡ length was
same_length f was now same = sym (length-map now f) ∙ ap length same ∙ length-map was f

-- what a loop leaves of a `Vec`
pub put_back : (P : List Index → Type 0) (n : ℕ) (xs ys : List Index) → n ≡ length xs → P xs → P (take n (xs ++ ys))
put_back P n xs ys is h = subst P (sym (ap (λ k. take k (xs ++ ys)) is ∙ take-append_seam xs ys)) h
