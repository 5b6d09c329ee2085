-- A take keeps the rule of the board, whether it is won or missed.
use Rattle.std.proofs.Common.{◌≡◌, ◌≢◌, ℕ, zero, suc, ◌<◌, List, ◌∷◌, map, length, get_or, set, refl, sym, ap, ◌∙◌, subst, ⊎_elim, inl, inr, arith, length-set, get_or-set_other, get_or-set_same, Some, eqb}
use Rattle.std.specs.Prelude.{Option}
use mathlib.Core.Logic.{dite}
use mathlib.Core.Option.{some, none, some-injective}
use native.Mathlib.Decide.{ℕ_discrete}
use lib.ListN.{get_elem?}
use lib.Seq.{map-set}
use prog.Atomic.{either}
use Rattle.atomic_table.specs.Table.{State, keeps, takes, step, Allows}
use Rattle.atomic_table.proofs.Lists.{at_set, at_map, set_else, set_again, exchanged}
use Rattle.base_board.specs.declared.view.SeatView.{SeatView}
use Rattle.base_board.specs.Outs.{AllBelow}
use Rattle.base_board.specs.Stands.{Carrier, IsHome, seat_view, state_of, parts_of, HasOut, IsAway, Sits, took, Stands}
use Rattle.base_board.proofs.Rows.{set_at, sum_set, set_away}
use Rattle.base_board.proofs.Owners.{own, own_here, own_else, away_set}

module _ {C S : Type 0} (stand : List C → List S → Type 0) (nobody : S) (parts : ℕ) where
  abbrev V : Type 0
  V = SeatView C S

  abbrev Law : State (Option C) V → Type 0
  Law = Stands stand nobody parts

  -- the word of a cell that is out gets another mark
  pub marked : (s : State (Option C) V) → Law s → (i m : ℕ) → i < length s.homes → m ≢ 0 → get_or s.words i 0 ≢ 0 → Law record { words = set s.words i m; homes = s.homes; views = s.views }
  marked s r i m near some_mark away = let ws : List ℕ = set s.words i m in let wide : length s.words ≡ length s.homes = r.wide in let inside : i < length s.words = omega arith in
      let still : (k : ℕ) → get_or s.words k 0 ≢ 0 → get_or ws k 0 ≢ 0 = λ k. set_away s.words i k m some_mark inside in record {
        cells = r.cells;
        owner = r.owner;
        wide = length-set s.words i m ∙ wide;
        long = r.long;
        each_cell = λ k lt. ⊎_elim
            (λ (h : IsHome s.words s.homes r.cells k). let ne : k ≢ i = λ e. away (subst (λ (z : ℕ). get_or s.words z 0 ≡ 0) e h.0) in inl (get_or-set_other s.words i k m 0 ne ∙ h.0, h.1))
            (λ (h : IsAway s.words s.views (r.owner k) k). inr (still k h.0, h.1))
            (r.each_cell k lt);
        each_seat = λ j v e. let old = r.each_seat j v e in (old.0, old.1, λ k h. (still k (old.2 k h).0, (old.2 k h).1));
        kept = r.kept;
        summed = r.summed;
        spent = r.spent;
      }

  -- cell i, which is at home, goes to the seat id
  pub won : (s : State (Option C) V) (r : Law s) (i m id : ℕ) (v : V) → i < length s.homes → m ≢ 0 → get_elem? s.views id ≡ some v → 0 < v.parts → AllBelow i v.out → (hit : get_or s.words i 0 ≡ 0) (home : IsHome s.words s.homes r.cells i)
      → Law record { words = set s.words i m; homes = set s.homes i none; views = set s.views id (seat_view v.state v.parts ((i, home.1.0) ∷ v.out)) }
  won s r i m id v near some_mark at some_part below hit home = let c : C = home.1.0 in let w : V = seat_view v.state v.parts ((i, c) ∷ v.out) in let vs : List V = set s.views id w in let ws : List ℕ = set s.words i m in
      let mine = r.each_seat id v at in let wide : length s.words ≡ length s.homes = r.wide in let inside : i < length s.words = omega arith in
      let still : (k : ℕ) → get_or s.words k 0 ≢ 0 → get_or ws k 0 ≢ 0 = λ k. set_away s.words i k m some_mark inside in
      let here : get_or ws i 0 ≢ 0 = here_marked inside in
      let other : (k : ℕ) → k ≢ i → get_or ws k 0 ≡ get_or s.words k 0 = λ k ne. get_or-set_other s.words i k m 0 ne in
      let apart : (k : ℕ) → get_or s.words k 0 ≢ 0 → k ≢ i = λ k away e. away (subst (λ (x : ℕ). get_or s.words x 0 ≡ 0) (sym e) hit) in
      let later : (k : ℕ) → HasOut k v → HasOut k w = λ k h. (suc h.0, h.1, h.2) in record {
        cells = r.cells;
        owner = own r.owner i id;
        wide = length-set s.words i m ∙ wide ∙ sym (length-set s.homes i none);
        long = r.long ∙ sym (length-set s.homes i none);
        each_cell = λ k lt. dite (ℕ_discrete k i)
            (λ e. inr (subst (λ (z : ℕ). IsAway ws vs (own r.owner i id z) z) (sym e) (here, (w, subst (λ (z : ℕ). get_elem? vs z ≡ some w) (sym (own_here r.owner i id)) (set_at s.views id v w at), (0, c, refl)))))
            (λ ne. let lt' : k < length s.homes = subst (λ (z : ℕ). k < z) (length-set s.homes i none) lt in ⊎_elim
            (λ (h : IsHome s.words s.homes r.cells k). inl (other k ne ∙ h.0, (h.1.0, h.1.1, set_else s.homes i k none ne ∙ h.1.2)))
            (λ (h : IsAway s.words s.views (r.owner k) k). inr (subst (λ (o : ℕ). IsAway ws vs o k) (sym (own_else r.owner i id k ne)) (away_set s.words ws s.views id (r.owner k) k v w at (still k) (later k) h)))
            (r.each_cell k lt'));
        each_seat = λ j u e. ⊎_elim
            (λ (t : (j ≡ id) × (w ≡ u)). subst (λ (z : ℕ × V). Sits ws r.cells (own r.owner i id) z.0 z.1) (λ q. (sym t.0 q, t.1 q)) ((home.1.1, mine.0), (below, mine.1), λ k h. sits_mine k h.0 h.1 h.2))
            (λ (t : (j ≢ id) × (get_elem? s.views j ≡ some u)). let old = r.each_seat j u t.1 in
            (old.0, old.1, λ k h. let was = old.2 k h in (still k was.0, own_else r.owner i id k (apart k was.0) ∙ was.1)))
            (at_set s.views id j w u e);
        kept = subst (stand r.cells) (sym (map-set state_of s.views id w ∙ set_again (map state_of s.views) id v.state (at_map state_of s.views id v at))) r.kept;
        summed = let all = sum_set parts_of s.views id v w at in let total = r.summed in omega arith;
        spent = λ j u e none_left. ⊎_elim
            (λ (t : (j ≡ id) × (w ≡ u)). absurd (let p : v.parts ≡ u.parts = ap parts_of t.1 in omega arith))
            (λ (t : (j ≢ id) × (get_elem? s.views j ≡ some u)). r.spent j u t.1 none_left)
            (at_set s.views id j w u e);
      }
    where
      here_marked : i < length s.words → get_or (set s.words i m) i 0 ≢ 0
      here_marked inside q = some_mark (sym (get_or-set_same s.words i m 0 inside) ∙ q)

      sits_mine : (k l : ℕ) (d : C) → get_elem? ((i, home.1.0) ∷ v.out) l ≡ some (k, d) → (get_or (set s.words i m) k 0 ≢ 0) × (own r.owner i id k ≡ id)
      sits_mine k zero d e = let eq : i ≡ k = ap (λ x. x.0) (some-injective (i, home.1.0) (k, d) e) in
          subst (λ (z : ℕ). (get_or (set s.words i m) z 0 ≢ 0) × (own r.owner i id z ≡ id)) eq (here_marked (omega (arith, r.wide)), own_here r.owner i id)
      sits_mine k (suc l) d e = let was = (r.each_seat id v at).2 k (l, d, e) in
          let ne : k ≢ i = λ q. was.0 (subst (λ (x : ℕ). get_or s.words x 0 ≡ 0) (sym q) hit) in
          (set_away s.words i k m some_mark (omega (arith, r.wide)) was.0, own_else r.owner i id k ne ∙ was.1)

  -- `mark y` is what the word becomes where it was y, and is never 0
  pub takes_cell : (mark : ℕ → ℕ) → ((y : ℕ) → mark y ≢ 0) → (a b n id : ℕ) (me : Carrier C S) (i : ℕ) → i < n → 0 < me.0.parts → AllBelow i me.0.out → Allows Law n id me i mark (took stand (step n i a b none) me)
  takes_cell mark marks a b n id me i near some_part below s r is at _ = let y : ℕ = get_or s.words i 0 in
      dite (ℕ_discrete y 0)
      (λ hit. ⊎_elim
      (λ (home : IsHome s.words s.homes r.cells i). let c : C = home.1.0 in let mine = r.each_seat id me.0 at in (
        seat_view me.0.state me.0.parts ((i, c) ∷ me.0.out),
        takes i (Some c),
        home.1.2,
        won s r i (mark y) id me.0 (omega arith) (marks y) at some_part below hit home,
        ((λ _. (c, refl, (r.cells, map state_of s.views, id, r.kept, at_map state_of s.views id me.0 at, (home.1.1, mine.0), r.long ∙ is))), λ miss. absurd (miss hit)),
      ))
      (λ (away : IsAway s.words s.views (r.owner i) i). absurd (away.0 hit))
      (r.each_cell i (omega arith)))
      (λ miss. (
        me.0,
        keeps,
        tt,
        subst (λ (l : List V). Law record { words = set s.words i (mark y); homes = s.homes; views = l }) (sym (set_again s.views id me.0 at)) (marked s r i (mark y) (omega arith) (marks y) miss),
        ((λ hit. absurd (miss hit)), λ _. refl),
      ))

-- the two marks of a take
pub out_mark : (y : ℕ) → either (eqb y 0) 1 y ≢ 0
out_mark y = exchanged y 0 1 (λ (m : ℕ). m ≢ 0) (λ _ q. absurd (omega arith)) (λ ne. ne)

pub awaited_mark : ℕ → 2 ≢ zero
awaited_mark y q = absurd (omega arith)
