-- A split and a join keep the rule of the board.
use Rattle.std.proofs.Common.{◌≡◌, ◌≢◌, ℕ, ◌+◌, ◌-◌, ◌<◌, List, [], ◌∷◌, ◌++◌, map, set, sym, ap, ◌∙◌, subst, ⊎_elim, inl, inr, arith}
use Rattle.std.specs.Prelude.{Option}
use Rattle.std.proofs.lemmas.List.Sums.{sum_by-cons, sum_by-append}
use mathlib.Core.List.{map-append}
use mathlib.Core.Option.{some, some-ne-none}
use lib.ListN.{get_elem?}
use lib.Seq.{map-set}
use Rattle.atomic_table.specs.Table.{State, Splits, Joins}
use Rattle.atomic_table.proofs.Lists.{at_set, at_snoc, at_longer, at_map, set_else}
use Rattle.base_board.specs.declared.view.SeatView.{SeatView}
use Rattle.base_board.specs.Stands.{seat_view, state_of, parts_of, IsAway, Sits, Stands}
use Rattle.base_board.proofs.Rows.{sum_set}
use Rattle.base_board.proofs.Owners.{away_set}

module _ {C S : Type 0} (stand : List C → List S → Type 0) (nobody : S) (parts : ℕ) where
  abbrev V : Type 0
  V = SeatView C S

  abbrev Law : State (Option C) V → Type 0
  Law = Stands stand nobody parts

  pub splits_seat : (kept split : S → ℕ → S)
      → ((cells : List C) (seats : List S) (j : ℕ) (s : S) (n : ℕ) → stand cells seats → get_elem? seats j ≡ some s → 0 < n → stand cells (set seats j (kept s n) ++ split s n ∷ []))
      → (id : ℕ) (v : V) (n : ℕ) → 0 < n → n < v.parts → Splits Law id v (seat_view (kept v.state n) (v.parts - n) v.out) (seat_view (split v.state n) n [])
  splits_seat kept split law id v n some_part fewer s r at = let w : V = seat_view (kept v.state n) (v.parts - n) v.out in let x : V = seat_view (split v.state n) n [] in let vs : List V = set s.views id w in
      let mine = r.each_seat id v at in record {
        cells = r.cells;
        owner = r.owner;
        wide = r.wide;
        long = r.long;
        each_cell = λ k lt. ⊎_elim inl (λ (h : IsAway s.words s.views (r.owner k) k). let a = away_set s.words s.words s.views id (r.owner k) k v w at (λ z. z) (λ g. g) h in inr (a.0, (a.1.0, at_longer vs (x ∷ []) (r.owner k) a.1.0 a.1.1, a.1.2))) (r.each_cell k lt);
        each_seat = λ j u e. ⊎_elim
            (λ (e' : get_elem? vs j ≡ some u). ⊎_elim
            (λ (t : (j ≡ id) × (w ≡ u)). subst (λ (z : ℕ × V). Sits s.words r.cells r.owner z.0 z.1) (λ q. (sym t.0 q, t.1 q)) mine)
            (λ (t : (j ≢ id) × (get_elem? s.views j ≡ some u)). r.each_seat j u t.1)
            (at_set s.views id j w u e'))
            (λ (e' : x ≡ u). subst (Sits s.words r.cells r.owner j) e' (tt, tt, λ k h. absurd (some-ne-none (k, h.1) (sym h.2))))
            (at_snoc vs x u j e);
        kept = subst (stand r.cells) (sym (map-append state_of vs (x ∷ []) ∙ ap (λ (l : List S). l ++ split v.state n ∷ []) (map-set state_of s.views id w))) (law r.cells (map state_of s.views) id v.state n r.kept (at_map state_of s.views id v at) some_part);
        summed = let all = sum_set parts_of s.views id v w at in let total = r.summed in let more = sum_by-append parts_of vs (x ∷ []) in let one = sum_by-cons parts_of x [] in omega arith;
        spent = λ j u e none. ⊎_elim
            (λ (e' : get_elem? vs j ≡ some u). ⊎_elim
            (λ (t : (j ≡ id) × (w ≡ u)). absurd (let p : v.parts - n ≡ u.parts = ap parts_of t.1 in omega arith))
            (λ (t : (j ≢ id) × (get_elem? s.views j ≡ some u)). r.spent j u t.1 none)
            (at_set s.views id j w u e'))
            (λ (e' : x ≡ u). absurd (let p : n ≡ u.parts = ap parts_of e' in omega arith))
            (at_snoc vs x u j e);
      }

  pub joins_seat : (may_end : S → Type 0) (joined : S → S → S)
      → ((cells : List C) (seats : List S) (j k : ℕ) (s t : S) → stand cells seats → get_elem? seats j ≡ some s → get_elem? seats k ≡ some t → k ≢ j → may_end t → stand cells (set (set seats j (joined s t)) k nobody))
      → (id : ℕ) (v : V) (other : ℕ) (u : V) → 0 < v.parts → u.out ≡ [] → may_end u.state
      → Joins Law id v other u (seat_view (joined v.state u.state) (v.parts + u.parts) v.out) (seat_view nobody 0 [])
  joins_seat may_end joined law id v other u some_part empty ends s r at two at' = let w : V = seat_view (joined v.state u.state) (v.parts + u.parts) v.out in let x : V = seat_view nobody 0 [] in let vs : List V = set s.views id w in let vs' : List V = set vs other x in
      let mine = r.each_seat id v at in
      let there : get_elem? s.views other ≡ some u = sym (set_else s.views id other w two) ∙ at' in record {
        cells = r.cells;
        owner = r.owner;
        wide = r.wide;
        long = r.long;
        each_cell = λ k lt. ⊎_elim inl (λ (h : IsAway s.words s.views (r.owner k) k).
            inr (away_set s.words s.words vs other (r.owner k) k u x at' (λ z. z) (λ g. absurd (some-ne-none (k, g.1) (sym (subst (λ (l : List (ℕ × C)). get_elem? l g.0 ≡ some (k, g.1)) empty g.2))))
            (away_set s.words s.words s.views id (r.owner k) k v w at (λ z. z) (λ g. g) h))) (r.each_cell k lt);
        each_seat = λ j y e. ⊎_elim
            (λ (t : (j ≡ other) × (x ≡ y)). subst (Sits s.words r.cells r.owner j) t.1 (tt, tt, λ k h. absurd (some-ne-none (k, h.1) (sym h.2))))
            (λ (t : (j ≢ other) × (get_elem? vs j ≡ some y)). ⊎_elim
            (λ (t : (j ≡ id) × (w ≡ y)). subst (λ (z : ℕ × V). Sits s.words r.cells r.owner z.0 z.1) (λ q. (sym t.0 q, t.1 q)) mine)
            (λ (t : (j ≢ id) × (get_elem? s.views j ≡ some y)). r.each_seat j y t.1)
            (at_set s.views id j w y t.1))
            (at_set vs other j x y e);
        kept = subst (stand r.cells) (sym (map-set state_of vs other x ∙ ap (λ (l : List S). set l other nobody) (map-set state_of s.views id w)))
            (law r.cells (map state_of s.views) id other v.state u.state r.kept (at_map state_of s.views id v at) (at_map state_of s.views other u there) two ends);
        summed = let all = sum_set parts_of s.views id v w at in let more = sum_set parts_of vs other u x at' in let total = r.summed in omega arith;
        spent = λ j y e none. ⊎_elim
            (λ (t : (j ≡ other) × (x ≡ y)). (ap state_of (sym t.1), λ q. (sym t.1 q).out))
            (λ (t : (j ≢ other) × (get_elem? vs j ≡ some y)). ⊎_elim
            (λ (t : (j ≡ id) × (w ≡ y)). absurd (let p : v.parts + u.parts ≡ y.parts = ap parts_of t.1 in omega arith))
            (λ (t : (j ≢ id) × (get_elem? s.views j ≡ some y)). r.spent j y t.1 none)
            (at_set s.views id j w y t.1))
            (at_set vs other j x y e);
      }
