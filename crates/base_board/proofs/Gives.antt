-- A give keeps the rule of the board.
use Rattle.std.proofs.Common.{◌≡◌, ◌≢◌, ℕ, zero, suc, ◌<◌, List, ◌∷◌, map, length, get_or, set, refl, sym, ap, ◌∙◌, subst, ⊎_elim, inl, inr, arith, length-set, get_or-set_other, get_or-set_same, Some}
use Rattle.std.specs.Prelude.{Option}
use mathlib.Core.Logic.{dite}
use mathlib.Core.Option.{some, none, some-injective}
use mathlib.Core.Option as maybe
use native.Mathlib.Decide.{ℕ_discrete}
use lib.ListN.{get_elem?}
use lib.Seq.{map-set}
use Rattle.atomic_table.specs.Table.{State, gives, step, Allows, rest, put_back}
use Rattle.atomic_table.proofs.Lists.{at_set, at_map, set_else}
use Rattle.base_board.specs.declared.view.SeatView.{SeatView}
use Rattle.base_board.specs.Outs.{OutsAreIn, IsRising}
use Rattle.base_board.specs.Stands.{Carrier, IsHome, seat_view, state_of, parts_of, HasOut, IsAway, Sits, gave, Stands}
use Rattle.base_board.proofs.Rows.{set_at, set_there, sum_set, below_out, outs_set}
use Rattle.base_board.proofs.Owners.{away_set}

module _ {C S : Type 0} (stand : List C → List S → Type 0) (nobody : S) (parts : ℕ) where
  abbrev V : Type 0
  V = SeatView C S

  abbrev Law : State (Option C) V → Type 0
  Law = Stands stand nobody parts

  -- cell i comes back from the seat id with the value c'
  pub given : (may : S → List (ℕ × C) → ℕ → C → S → Type 0)
      → ((cells : List C) (seats : List S) (j : ℕ) (s : S) (out : List (ℕ × C)) (i : ℕ) (c : C) (t : S) → stand cells seats → get_elem? seats j ≡ some s → OutsAreIn cells out → may s out i c t → stand (set cells i c) (set seats j t))
      → (s : State (Option C) V) (r : Law s) (id : ℕ) (v : V) (i : ℕ) (c c' : C) (t : S) (xs : List (ℕ × C)) → i < length s.homes → get_elem? s.views id ≡ some v → 0 < v.parts → v.out ≡ (i, c) ∷ xs → may v.state v.out i c' t
      → Law record { words = set s.words i 0; homes = set s.homes i (some (Some c')); views = set s.views id (seat_view t v.parts xs) }
  given may visits s r id v i c c' t xs near at some_part held allowed = let w : V = seat_view t v.parts xs in let vs : List V = set s.views id w in let ws : List ℕ = set s.words i 0 in
      let hs : List (maybe.Option (Option C)) = set s.homes i (some (Some c')) in let cs : List C = set r.cells i c' in
      let mine = r.each_seat id v at in let wide : length s.words ≡ length s.homes = r.wide in let long : length r.cells ≡ length s.homes = r.long in let inside : i < length s.words = omega arith in
      let rising : IsRising ((i, c) ∷ xs) = subst IsRising held mine.1 in
      let mine_out : OutsAreIn r.cells ((i, c) ∷ xs) = subst (OutsAreIn r.cells) held mine.0 in
      let was_out : (k : ℕ) → HasOut k w → HasOut k v = λ k h. (suc h.0, h.1, subst (λ (l : List (ℕ × C)). get_elem? l (suc h.0) ≡ some (k, h.1)) (sym held) h.2) in
      let mine_here : (get_or s.words i 0 ≢ 0) × (r.owner i ≡ id) = mine.2 i (0, c, subst (λ (l : List (ℕ × C)). get_elem? l 0 ≡ some (i, c)) (sym held) refl) in
      let other : (k : ℕ) → k ≢ i → get_or ws k 0 ≡ get_or s.words k 0 = λ k ne. get_or-set_other s.words i k 0 0 ne in record {
        cells = cs;
        owner = r.owner;
        wide = length-set s.words i 0 ∙ wide ∙ sym (length-set s.homes i (some (Some c')));
        long = length-set r.cells i c' ∙ long ∙ sym (length-set s.homes i (some (Some c')));
        each_cell = λ k lt. dite (ℕ_discrete k i)
            (λ e. inl (subst (λ (z : ℕ). IsHome ws hs cs z) (sym e) (get_or-set_same s.words i 0 0 inside, (c', set_at r.cells i c c' mine_out.0, set_there s.homes i (some (Some c')) (omega arith)))))
            (λ ne. let lt' : k < length s.homes = subst (λ (z : ℕ). k < z) (length-set s.homes i (some (Some c'))) lt in ⊎_elim
            (λ (h : IsHome s.words s.homes r.cells k). inl (other k ne ∙ h.0, (h.1.0, set_else r.cells i k c' ne ∙ h.1.1, set_else s.homes i k (some (Some c')) ne ∙ h.1.2)))
            (λ (h : IsAway s.words s.views (r.owner k) k). inr (away_set s.words ws s.views id (r.owner k) k v w at (λ z q. z (sym (other k ne) ∙ q)) (still k ne) h))
            (r.each_cell k lt'));
        each_seat = λ j x e. ⊎_elim
            (λ (eq : (j ≡ id) × (w ≡ x)). subst (λ (z : ℕ × V). Sits ws cs r.owner z.0 z.1) (λ q. (sym eq.0 q, eq.1 q)) (
              outs_set r.cells i c' xs (λ k m d g. let lower : m < i = below_out i xs k m d rising.0 g in λ q. absurd (omega arith)) mine_out.1,
              rising.1,
              λ k h. let was = mine.2 k (was_out k h) in let lower : k < i = below_out i xs h.0 k h.1 rising.0 h.2 in let ne : k ≢ i = λ q. absurd (omega arith) in ((λ q. was.0 (sym (other k ne) ∙ q)), was.1),
            ))
            (λ (eq : (j ≢ id) × (get_elem? s.views j ≡ some x)). let old = r.each_seat j x eq.1 in
            let apart : (k : ℕ) → HasOut k x → k ≢ i = λ k h q. eq.0 (sym (old.2 k h).1 ∙ ap r.owner q ∙ mine_here.1) in
            (outs_set r.cells i c' x.out (λ k m d g. apart m (k, d, g)) old.0, old.1, λ k h. ((λ q. (old.2 k h).0 (sym (other k (apart k h)) ∙ q)), (old.2 k h).1)))
            (at_set s.views id j w x e);
        kept = subst (stand cs) (sym (map-set state_of s.views id w)) (visits r.cells (map state_of s.views) id v.state v.out i c' t r.kept (at_map state_of s.views id v at) mine.0 allowed);
        summed = let all = sum_set parts_of s.views id v w at in let total = r.summed in omega arith;
        spent = λ j x e none. ⊎_elim
            (λ (eq : (j ≡ id) × (w ≡ x)). absurd (let p : v.parts ≡ x.parts = ap parts_of eq.1 in omega arith))
            (λ (eq : (j ≢ id) × (get_elem? s.views j ≡ some x)). r.spent j x eq.1 none)
            (at_set s.views id j w x e);
      }
    where
      still : (k : ℕ) → k ≢ i → HasOut k v → HasOut k (seat_view t v.parts xs)
      still k ne h = behind h.0 h.1 (subst (λ (l : List (ℕ × C)). get_elem? l h.0 ≡ some (k, h.1)) held h.2)
        where
          behind : (m : ℕ) (d : C) → get_elem? ((i, c) ∷ xs) m ≡ some (k, d) → HasOut k (seat_view t v.parts xs)
          behind zero d e = absurd (ne (sym (ap (λ x. x.0) (some-injective (i, c) (k, d) e))))
          behind (suc m) d e = (m, d, e)

  pub gives_cell : (may : S → List (ℕ × C) → ℕ → C → S → Type 0)
      → ((cells : List C) (seats : List S) (j : ℕ) (s : S) (out : List (ℕ × C)) (i : ℕ) (c : C) (t : S) → stand cells seats → get_elem? seats j ≡ some s → OutsAreIn cells out → may s out i c t → stand (set cells i c) (set seats j t))
      → (n id : ℕ) (me : Carrier C S) (i : ℕ) (c c' : C) (after : S → Type 0) (t : S) (xs : List (ℕ × C)) (ys : List (ℕ × Option C)) → i < n → 0 < me.0.parts → me.0.out ≡ (i, c) ∷ xs → me.1 ≡ (i, Some c') ∷ ys → may me.0.state me.0.out i c' t → after t
      → Allows Law n id me i (λ _. 0) (gave after (step n i 0 0 none) me)
  gives_cell may visits n id me i c c' after t xs ys near some_part held carried allowed such s r is at _ = (
    seat_view t me.0.parts xs,
    gives,
    tt,
    subst (λ (l : List (ℕ × Option C)). Law record { words = set s.words i 0; homes = put_back s.homes l; views = set s.views id (seat_view t me.0.parts xs) }) (sym carried) (given may visits s r id me.0 i c c' t xs (omega arith) at some_part held allowed),
    (t, such, (λ q. (seat_view t me.0.parts (sym (ap rest held) q), rest me.1))),
  )

  pub gives_from : (may : S → List (ℕ × C) → ℕ → C → S → Type 0)
      → ((cells : List C) (seats : List S) (j : ℕ) (s : S) (out : List (ℕ × C)) (i : ℕ) (c : C) (t : S) → stand cells seats → get_elem? seats j ≡ some s → OutsAreIn cells out → may s out i c t → stand (set cells i c) (set seats j t))
      → (n id : ℕ) (was me : Carrier C S) (i : ℕ) (c c' : C) (after : S → Type 0) (t : S) → me ≡ (was.0, (i, Some c') ∷ rest was.1) → i < n → 0 < was.0.parts → was.0.out ≡ (i, c) ∷ rest was.0.out → may was.0.state was.0.out i c' t → after t
      → Allows Law n id me i (λ _. 0) (gave after (step n i 0 0 none) me)
  gives_from may visits n id was me i c c' after t is near some_part held allowed such =
      let now : Carrier C S = (was.0, (i, Some c') ∷ rest was.1) in
      subst (λ (m : Carrier C S). Allows Law n id m i (λ _. 0) (gave after (step n i 0 0 none) m)) (sym is) (gives_cell may visits n id now i c c' after t (rest was.0.out) (rest was.1) near some_part held refl allowed such)
