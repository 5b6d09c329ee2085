-- The rule holds at the start, where all cells are at home and one seat has all parts.
use Rattle.std.proofs.Common.{◌≡◌, ℕ, zero, suc, ◌<◌, List, [], ◌∷◌, map, length, get_or, refl, sym, ap, ◌∙◌, subst, ⊎_elim, inl, arith, Some}
use Rattle.std.specs.Prelude.{Option}
use Rattle.std.proofs.lemmas.List.Sums.{sum_by-cons}
use mathlib.Core.Option.{some, some-ne-none}
use lib.ListN.{get_elem?, length-map}
use Rattle.atomic_table.specs.Table.{State, opening}
use Rattle.atomic_table.proofs.Lists.{at_snoc}
use Rattle.base_board.specs.declared.view.SeatView.{SeatView}
use Rattle.base_board.specs.Stands.{seat_view, parts_of, Sits, Stands}

module _ {C S : Type 0} (stand : List C → List S → Type 0) (nobody : S) (parts : ℕ) where
  abbrev V : Type 0
  V = SeatView C S

  abbrev Law : State (Option C) V → Type 0
  Law = Stands stand nobody parts

  pub starts : (ws : List ℕ) (slots : List (Option C)) (cells : List C) (first : S) → slots ≡ map Some cells → length ws ≡ length cells → ((i : ℕ) → i < length cells → get_or ws i 0 ≡ 0) → 0 < parts → stand cells (first ∷ [])
      → Law (opening ws slots (seat_view first parts []))
  starts ws slots cells first filled wide zeros some_part begins = let count : length slots ≡ length cells = ap length filled ∙ length-map cells Some in let long : length (map some slots) ≡ length slots = length-map slots some in record {
    cells = cells;
    owner = λ _. 0;
    wide = omega arith;
    long = omega arith;
    each_cell = λ i lt. let near : i < length cells = omega arith in inl (zeros i near, at_cell cells slots i filled near);
    each_seat = λ j v e. ⊎_elim (λ (x : get_elem? [] j ≡ some v). absurd (some-ne-none v (sym x))) (λ (x : seat_view first parts [] ≡ v). subst (Sits ws cells (λ _. 0) j) x (tt, tt, λ k h. absurd (some-ne-none (k, h.1) (sym h.2)))) (at_snoc [] (seat_view first parts []) v j e);
    kept = begins;
    summed = let w : V = seat_view first parts [] in sum_by-cons parts_of w [] ∙ (omega arith);
    spent = λ j v e none. ⊎_elim (λ (x : get_elem? [] j ≡ some v). absurd (some-ne-none v (sym x))) (λ (x : seat_view first parts [] ≡ v). absurd (let p : parts ≡ v.parts = ap parts_of x in omega arith)) (at_snoc [] (seat_view first parts []) v j e);
  }
    where
      at_cell : (cs : List C) (xs : List (Option C)) (i : ℕ) → xs ≡ map Some cs → i < length cs → (c : C) × (get_elem? cs i ≡ some c) × (get_elem? (map some xs) i ≡ some (some (Some c)))
      at_cell cs xs i e h = subst (λ (ys : List (Option C)). (c : C) × (get_elem? cs i ≡ some c) × (get_elem? (map some ys) i ≡ some (some (Some c)))) (sym e) (go cs i h)
        where
          go : (cs : List C) (i : ℕ) → i < length cs → (c : C) × (get_elem? cs i ≡ some c) × (get_elem? (map some (map Some cs)) i ≡ some (some (Some c)))
          go [] i h = absurd (omega arith)
          go (c ∷ cs) zero h = (c, refl, refl)
          go (c ∷ cs) (suc i) h = go cs i (omega arith)
