-- All cells out with one seat.
use Rattle.std.proofs.Common.{◌≡◌, ℕ, zero, suc, ◌+◌, ◌<◌, ◌≤◌, List, [], ◌∷◌, ◌++◌, length, refl, sym, ap, ◌∙◌, subst, arith}
use mathlib.Core.Option.{some, some-injective, some-ne-none}
use lib.ListN.{get_elem?}
use Rattle.atomic_table.proofs.Lists.{at_last, at_longer}
use Rattle.base_board.specs.Outs.{OutsAreIn, AllBelow, all_out}

module _ {C : Type 0} where
  pub all_out_snoc : (n k : ℕ) (cs : List C) (c : C) (out : List (ℕ × C)) → n + length cs ≡ k → all_out n (cs ++ c ∷ []) out ≡ (k, c) ∷ all_out n cs out
  all_out_snoc n k [] c out e = let z : n ≡ k = omega arith in ap (λ (m : ℕ). (m, c) ∷ out) z
  all_out_snoc n k (x ∷ xs) c out e = all_out_snoc (n + 1) k xs c ((n, x) ∷ out) (omega arith)

  more_below : (n m : ℕ) (out : List (ℕ × C)) → n ≤ m → AllBelow n out → AllBelow m out
  more_below n m [] le h = tt
  more_below n m (x ∷ xs) le h = (let a : x.0 < n = h.0 in omega arith, more_below n m xs le h.1)

  pub all_below : (n m : ℕ) (cs : List C) (out : List (ℕ × C)) → AllBelow n out → n + length cs ≡ m → AllBelow m (all_out n cs out)
  all_below n m [] out h e = more_below n m out (omega arith) h
  all_below n m (c ∷ cs) out h e = all_below (n + 1) m cs ((n, c) ∷ out) (omega arith, more_below n (n + 1) out (omega arith) h) (omega arith)

  all_at : (cells : List C) (n : ℕ) (cs : List C) (out : List (ℕ × C)) → OutsAreIn cells (all_out n cs out) → ((k : ℕ) (c : C) → get_elem? cs k ≡ some c → get_elem? cells (n + k) ≡ some c) × OutsAreIn cells out
  all_at cells n [] out h = ((λ k c e. absurd (some-ne-none c (sym e))), h)
  all_at cells n (x ∷ xs) out h = let more = all_at cells (n + 1) xs ((n, x) ∷ out) h in (at more.0 more.1.0, more.1.1)
    where
      at : ((k : ℕ) (c : C) → get_elem? xs k ≡ some c → get_elem? cells (n + 1 + k) ≡ some c) → get_elem? cells n ≡ some x → (k : ℕ) (c : C) → get_elem? (x ∷ xs) k ≡ some c → get_elem? cells (n + k) ≡ some c
      at more here zero c e = subst (λ (m : ℕ). get_elem? cells m ≡ some c) (let z : n ≡ n + 0 = omega arith in z) (here ∙ e)
      at more here (suc k) c e = subst (λ (m : ℕ). get_elem? cells m ≡ some c) (let z : n + 1 + k ≡ n + suc k = omega arith in z) (more k c e)

  same_list : (xs ys : List C) → length xs ≡ length ys → ((k : ℕ) (c : C) → get_elem? xs k ≡ some c → get_elem? ys k ≡ some c) → ys ≡ xs
  same_list [] [] e h = refl
  same_list [] (y ∷ ys) e h = absurd (omega arith)
  same_list (x ∷ xs) [] e h = absurd (omega arith)
  same_list (x ∷ xs) (y ∷ ys) e h = let first : y ≡ x = some-injective y x (h 0 x refl) in let rest = same_list xs ys (omega arith) (λ k c q. h (suc k) c q) in λ i. first i ∷ rest i

  -- as many as there are cells are all cells
  pub whole : (cells cs : List C) → length cs ≡ length cells → OutsAreIn cells (all_out 0 cs []) → cells ≡ cs
  whole cells cs e h = let a = (all_at cells 0 cs [] h).0 in same_list cs cells e (λ k c q. subst (λ (m : ℕ). get_elem? cells m ≡ some c) (let z : 0 + k ≡ k = omega arith in z) (a k c q))

pub top_out : {C : Type 0} (out : List (ℕ × C)) (items new : List C) (c : C) (k : ℕ) → out ≡ all_out 0 items [] → items ≡ new ++ c ∷ [] → length new ≡ k → out ≡ (k, c) ∷ all_out 0 new []
top_out out items new c k e split long = e ∙ ap (λ l. all_out 0 l []) split ∙ all_out_snoc 0 k new c [] (let z : 0 + length new ≡ k = omega arith in z)

module _ {C : Type 0} where
  -- where the last of a row is taken from it, it lay behind the others
  pub last_at : (items new : List C) (c : C) (k : ℕ) → items ≡ new ++ c ∷ [] → length new ≡ k → get_elem? items k ≡ some c
  last_at items new c k split long = subst (λ (l : List C). get_elem? l k ≡ some c) (sym split) (at_last new c k long)

  -- and the others lie where they lay
  pub first_at : (items new : List C) (c : C) → items ≡ new ++ c ∷ [] → (i : ℕ) (d : C) → get_elem? new i ≡ some d → get_elem? items i ≡ some d
  first_at items new c split i d at = subst (λ (l : List C). get_elem? l i ≡ some d) (sym split) (at_longer new (c ∷ []) i d at)
