-- What the cells are once a board is closed.
use Rattle.std.proofs.Common.{◌≡◌, ◌≢◌, ℕ, zero, suc, ◌+◌, ◌<◌, ◌≤◌, List, [], ◌∷◌, ◌++◌, map, length, take, refl, sym, ap, ◌∙◌, subst, ⊎_elim, arith, Some, Bool, true, false, set, get_or, get_or-set_same, get_or-set_other}
use Rattle.std.specs.Prelude.{Option, sum_by}
use Rattle.std.proofs.lemmas.List.Sums.{sum_by-cons}
use mathlib.Core.Logic.{dite}
use mathlib.Core.Option.{some, some-injective, some-ne-none}
use native.Mathlib.Decide.{ℕ_discrete}
use lib.ListN.{get_elem?}
use Rattle.atomic_table.specs.Table.{Final, Seen}
use Rattle.atomic_table.proofs.Lists.{at_map}
use Rattle.base_board.specs.declared.view.SeatView.{SeatView}
use Rattle.base_board.specs.Boards.{AllElse}
use Rattle.base_board.specs.Stands.{IsHome, state_of, parts_of, IsAway, Stands}
use Rattle.base_board.proofs.Rows.{one_there}

module _ {C : Type 0} where
  -- a place in a row that is full
  pub some_at : (xs : List (Option C)) (cs : List C) (i : ℕ) (x : Option C) → xs ≡ map Some cs → get_elem? xs i ≡ some x → (c : C) × (x ≡ Some c)
  some_at xs cs i x e at = go cs i x (subst (λ (l : List (Option C)). get_elem? l i ≡ some x) e at)
    where
      go : (cs : List C) (i : ℕ) (x : Option C) → get_elem? (map Some cs) i ≡ some x → (c : C) × (x ≡ Some c)
      go [] i x e = absurd (some-ne-none x (sym e))
      go (c ∷ cs) zero x e = (c, sym (some-injective (Some c) x e))
      go (c ∷ cs) (suc i) x e = go cs i x e

  pub same_cells : (cs ds : List C) → map {B = Option C} Some cs ≡ map Some ds → cs ≡ ds
  same_cells [] [] e = refl
  same_cells [] (d ∷ ds) e = absurd (cc)
  same_cells (c ∷ cs) [] e = absurd (cc)
  same_cells (c ∷ cs) (d ∷ ds) e = let rest : map {B = Option C} Some cs ≡ map Some ds = cc in let r = same_cells cs ds rest in let first : c ≡ d = cc in cc

  pub full_row : (xs : List (Option C)) (cs : List C) → length xs ≡ length cs → ((i : ℕ) → i < length cs → (c : C) × (get_elem? cs i ≡ some c) × (get_elem? xs i ≡ some (Some c))) → xs ≡ map Some cs
  full_row [] [] e h = refl
  full_row [] (c ∷ cs) e h = absurd (omega arith)
  full_row (x ∷ xs) [] e h = absurd (omega arith)
  full_row (x ∷ xs) (c ∷ cs) e h = let z = h 0 (omega arith) in
      let first : x ≡ Some c = some-injective x (Some z.0) z.2 ∙ sym (ap Some (some-injective c z.0 z.1)) in
      let more = full_row xs cs (omega arith) (λ i lt. h (suc i) (omega arith)) in
      λ k. first k ∷ more k

module _ {A : Type 0} where
  pub take_next : (xs : List A) (i : ℕ) (x : A) → get_elem? xs i ≡ some x → take (suc i) xs ≡ take i xs ++ x ∷ []
  take_next [] i x e = absurd (some-ne-none x (sym e))
  take_next (y ∷ ys) zero x e = λ k. some-injective y x e k ∷ []
  take_next (y ∷ ys) (suc i) x e = λ k. y ∷ take_next ys i x e k

  one_below : (f : A → ℕ) (l : List A) (k : ℕ) (u : A) → get_elem? l k ≡ some u → f u ≤ sum_by f l
  one_below f [] k u e = absurd (some-ne-none u (sym e))
  one_below f (x ∷ xs) zero u e = omega (arith, sum_by-cons f x xs, ap f (some-injective x u e))
  one_below f (x ∷ xs) (suc k) u e = omega (arith, sum_by-cons f x xs, one_below f xs k u e)

  pub two_below : (f : A → ℕ) (l : List A) (i k : ℕ) (v u : A) → k ≢ i → get_elem? l i ≡ some v → get_elem? l k ≡ some u → f v + f u ≤ sum_by f l
  two_below f [] i k v u ne p q = absurd (some-ne-none u (sym q))
  two_below f (x ∷ xs) zero zero v u ne p q = absurd (ne refl)
  two_below f (x ∷ xs) zero (suc k) v u ne p q = omega (arith, sum_by-cons f x xs, ap f (some-injective x v p), one_below f xs k u q)
  two_below f (x ∷ xs) (suc i) zero v u ne p q = omega (arith, sum_by-cons f x xs, ap f (some-injective x u q), one_below f xs i v p)
  two_below f (x ∷ xs) (suc i) (suc k) v u ne p q = omega (arith, sum_by-cons f x xs, two_below f xs i k v u (λ e. ne (ap suc e)) p q)

  pub of_map : {B : Type 0} (f : A → B) (l : List A) (k : ℕ) (b : B) → get_elem? (map f l) k ≡ some b → (a : A) × (get_elem? l k ≡ some a) × (f a ≡ b)
  of_map f [] k b e = absurd (some-ne-none b (sym e))
  of_map f (x ∷ xs) zero b e = (x, refl, some-injective (f x) b e)
  of_map f (x ∷ xs) (suc k) b e = of_map f xs k b e

module _ {C S : Type 0} (stand : List C → List S → Type 0) (nobody : S) (parts : ℕ) where
  abbrev pub Closes : SeatView C S → List (Option C) → Type 0
  Closes v xs = (cells : List C) × (xs ≡ map Some cells) × ((seats : List S) × (j : ℕ) × stand cells seats × (get_elem? seats j ≡ some v.state) × AllElse nobody j seats)

  pub closes : (id : ℕ) (v : SeatView C S) (ws : List ℕ) (xs : List (Option C)) → v.parts ≡ parts → v.out ≡ [] → Final (Seen (Stands stand nobody parts) id v) ws xs → Closes v xs
  closes id v ws xs all none_out final = let s = final.0 in let r = final.1.0 in let at = final.1.1 in
      let count : length s.homes ≡ length xs = final.3 in
      let idle : (k : ℕ) (u : SeatView C S) → k ≢ id → get_elem? s.views k ≡ some u → u.parts ≡ 0 = λ k u ne e. let two = two_below parts_of s.views id k v u ne at e in let total = r.summed in omega arith in
      let home : (i : ℕ) → i < length r.cells → IsHome s.words s.homes r.cells i = λ i lt. ⊎_elim (λ h. h) (λ (h : IsAway s.words s.views (r.owner i) i). absurd (nobody_has i h (idle (r.owner i) h.1.0))) (r.each_cell i (omega (arith, r.long))) in (
        r.cells,
        full_row xs r.cells (omega (arith, r.long)) (λ i lt. let h = home i lt in (h.1.0, h.1.1, final.4 i (Some h.1.0) h.1.2)),
        (map state_of s.views, id, r.kept, at_map state_of s.views id v at, λ k t ne e. let u = of_map state_of s.views k t e in sym u.2 ∙ (r.spent k u.0 u.1 (idle k u.0 ne u.1)).0),
      )
    where
      nobody_has : (i : ℕ) (h : IsAway final.0.words final.0.views (final.1.0.owner i) i) → (final.1.0.owner i ≢ id → get_elem? final.0.views (final.1.0.owner i) ≡ some h.1.0 → h.1.0.parts ≡ 0) → ⊥
      nobody_has i h idle = let o : ℕ = final.1.0.owner i in let u = h.1.0 in
          let nothing : u.out ≡ [] → ⊥ = λ e. some-ne-none (i, h.1.2.1) (sym (subst (λ (l : List (ℕ × C)). get_elem? l h.1.2.0 ≡ some (i, h.1.2.1)) e h.1.2.2)) in
          dite (ℕ_discrete o id)
          (λ e. nothing (ap (λ (w : SeatView C S). w.out) (one_there final.0.views o u v h.1.1 (subst (λ (z : ℕ). get_elem? final.0.views z ≡ some v) (sym e) final.1.1)) ∙ none_out))
          (λ ne. nothing (final.1.0.spent o u h.1.1 (idle ne h.1.1)).1)

pub still_full : (fs gs : List Bool) (i n m : ℕ) → gs ≡ set fs i false → m ≡ n → ((k : ℕ) → i ≤ k → k < n → get_or fs k false ≡ true) → (k : ℕ) → i + 1 ≤ k → k < m → get_or gs k false ≡ true
still_full fs gs i n m e same h k low high = let ne : k ≢ i = λ q. absurd (omega arith) in ap (λ (l : List Bool). get_or l k false) e ∙ get_or-set_other fs i k false false ne ∙ h k (omega arith) (omega arith)

pub now_empty : (fs gs : List Bool) (i : ℕ) → gs ≡ set fs i false → i < length fs → ((k : ℕ) → k < i → get_or fs k false ≡ false) → (k : ℕ) → k < i + 1 → get_or gs k false ≡ false
now_empty fs gs i e near h k low = ap (λ (l : List Bool). get_or l k false) e ∙ dite (ℕ_discrete k i)
    (λ q. subst (λ (z : ℕ). get_or (set fs i false) z false ≡ false) (sym q) (get_or-set_same fs i false false near))
    (λ ne. get_or-set_other fs i k false false ne ∙ h k (omega arith))
