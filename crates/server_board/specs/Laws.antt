-- The laws of the world: visits, splits and joins keep cells and seats standing together.
use Rattle.std.proofs.Common.{◌≡◌, ◌≢◌, ◌<◌, ◌++◌, ℕ, zero, suc, List, [], ◌∷◌, map, slice_set, refl, sym, ap, ◌∙◌, subst, append_assoc, arith}
use mathlib.Core.Option.{some, some-injective, some-ne-none}
use lib.ListN.{get_elem?}
use lib.Seq.{map-set}
use Rattle.base_board.specs.Outs as board
use Rattle.spec_history.specs.Lists.{Each}
use Rattle.spec_protocol.specs.Cells.{Cell, Ledger, LedgerCell, ledger_at}
use Rattle.spec_protocol.specs.Contents.{contents}
use Rattle.spec_protocol.specs.AllowedVisit.{OutsAreIn}
use Rattle.spec_protocol.specs.Seats.{SeatState, kept, split, joined, nobody, may_end}
use Rattle.spec_protocol.specs.Server.{Server}
use Rattle.spec_protocol.specs.StandTogether.{History, StandTogether}
use Rattle.spec_protocol.specs.Steps as steps
use Rattle.spec_protocol.specs.Steps.{Step}
use Rattle.law_sequential.proofs.JoinsStand.{back, join_stands}
use Rattle.law_sequential.proofs.KeepsAsked.{still_asked_for}
use Rattle.law_sequential.proofs.KeepsRequested.{same_requested, split_requested}
use Rattle.law_sequential.proofs.Splits.{splits_stand}
use Rattle.law_sequential.proofs.StepsKeep.{may_keeps}
use Rattle.law_sequential.specs.AddedInTime.{AddedInTime}
use Rattle.law_sequential.proofs.Steps.{one_step}
use Rattle.server_board.specs.ServedDatabase.{ServedDatabase, outs_seen, IsOf, StandsOn, MayVisitServed}

each_set : {A : Type 0} (P : A → Type 0) (xs : List A) → Each P xs → (i : ℕ) (x : A) → P x → Each P (slice_set xs i x)
each_set P [] h i x p = tt
each_set P (y ∷ ys) h zero x p = (p, h.1)
each_set P (y ∷ ys) h (suc i) x p = (h.0, each_set P ys h.1 i x p)

pub seen_at : {A B : Type 0} (f : A → B) (xs : List A) (i : ℕ) (x : A) → get_elem? xs i ≡ some x → get_elem? (map f xs) i ≡ some (f x)
seen_at f [] i x e = absurd (some-ne-none x (sym e))
seen_at f (y ∷ ys) zero x e = ap (λ z. some (f z)) (some-injective y x e)
seen_at f (y ∷ ys) (suc i) x e = seen_at f ys i x e

pub outs_are_seen : {C : Type 0} (cell : C → Cell) (cells : List C) (out : List (ℕ × C)) → board.OutsAreIn cells out → OutsAreIn (map cell cells) (outs_seen cell out)
outs_are_seen cell cells [] h = tt
outs_are_seen cell cells (x ∷ xs) h = (seen_at cell cells x.0 x.1 h.0, outs_are_seen cell cells xs h.1)

same_ledger : (k l : LedgerCell) → Ledger k ≡ Ledger l → k ≡ l
same_ledger k l e = cc

-- the ledger's cell at its place is one
pub one_ledger : (cells : List Cell) (k l : LedgerCell) → get_elem? cells ledger_at ≡ some (Ledger k) → get_elem? cells ledger_at ≡ some (Ledger l) → k ≡ l
one_ledger cells k l a b = same_ledger k l (some-injective (Ledger k) (Ledger l) (sym a ∙ b))

module _ {C : Type 0} (cell : C → Cell) (keeps : (List ℕ → List ℕ) → C → Type 0) (d : ServedDatabase) where
  abbrev v : Server
  v = d.server

  -- after a step, what is new in the journal has moments of what it makes of the seats
  added_then : (cells : List C) (seats : List SeatState) (h : StandsOn cell keeps d cells seats) (then_cells : List Cell) (then_seats : List SeatState) → Step v (map cell cells) seats then_cells then_seats
      → (l : LedgerCell) → get_elem? then_cells ledger_at ≡ some (Ledger l) → AddedInTime d.past.items then_seats l
  added_then cells seats h then_cells then_seats step l lies =
      let was = h.together.stands in
      let now = one_step v d.past.items (map cell cells) then_cells seats then_seats step was.ledger was.are_cells.has_ledger (h.added was.ledger was.are_cells.has_ledger) in
      subst (AddedInTime d.past.items then_seats) (one_ledger then_cells now.0 l now.1 lies) now.2

  pub visits_keep : (cells : List C) (seats : List SeatState) (j : ℕ) (s : SeatState) (out : List (ℕ × C)) (i : ℕ) (c : C) (t : SeatState)
      → StandsOn cell keeps d cells seats → get_elem? seats j ≡ some s → board.OutsAreIn cells out → MayVisitServed cell keeps d s out i c t
      → StandsOn cell keeps d (slice_set cells i c) (slice_set seats j t)
  visits_keep cells seats j s out i c t h there outs visit = let w = h.together in
      let begins = h.start.begins in
      let l = may_keeps v (map cell cells) (begins.seat ∷ seats) w.stands w.locks_were_asked w.locks_are_requested (suc j) s there (outs_seen cell out) (outs_are_seen cell cells out outs) i (cell c) t visit.may in
      let after : StandTogether v (slice_set (map cell cells) i (cell c)) (begins.seat ∷ slice_set seats j t) = record { history = w.history ++ l.events; stands = l.stands; locks_were_asked = l.locks_were_asked; locks_are_requested = l.locks_are_requested } in
      let was : IsOf d w.stands.ledger = h.of w.stands.ledger w.stands.are_cells.has_ledger in
      let now : IsOf d l.stands.ledger = record { database = l.database ∙ was.database; block_size = l.block_size ∙ was.block_size } in
      let same : map cell (slice_set cells i c) ≡ slice_set (map cell cells) i (cell c) = map-set cell cells i c in
      let step : Step v (map cell cells) seats (slice_set (map cell cells) i (cell c)) (slice_set seats j t) = steps.visits (record {
        j = j;
        s = s;
        is_seat = there;
        out = outs_seen cell out;
        are_out = outs_are_seen cell cells out outs;
        i = i;
        c = cell c;
        t = t;
        may = visit.may;
        cells_are = refl;
        seats_are = refl;
      }) in
      let then_together = subst (λ (cs : List Cell). (st : StandTogether v cs (begins.seat ∷ slice_set seats j t)) × (st.history ≡ begins.history ++ (h.events ++ l.events))) (sym same)
      (after, ap (λ (es : History). es ++ l.events) h.since ∙ append_assoc begins.history h.events l.events) in
      record {
        kept = each_set (keeps v.hash) cells h.kept i c visit.kept;
        start = h.start;
        together = then_together.0;
        events = h.events ++ l.events;
        since = then_together.1;
        added = subst (λ (cs : List Cell). (k : LedgerCell) → get_elem? cs ledger_at ≡ some (Ledger k) → AddedInTime d.past.items (slice_set seats j t) k) (sym same)
            (added_then cells seats h (slice_set (map cell cells) i (cell c)) (slice_set seats j t) step);
        of = λ k e. subst (IsOf d) (one_ledger (slice_set (map cell cells) i (cell c)) l.stands.ledger k l.stands.are_cells.has_ledger (subst (λ (cs : List Cell). get_elem? cs ledger_at ≡ some (Ledger k)) same e)) now;
      }

  pub splits_keep : (cells : List C) (seats : List SeatState) (j : ℕ) (s : SeatState) (n : ℕ)
      → StandsOn cell keeps d cells seats → get_elem? seats j ≡ some s → 0 < n
      → StandsOn cell keeps d cells (slice_set seats j (kept s n) ++ split s n ∷ [])
  splits_keep cells seats j s n h there positive = let w = h.together in let begins = h.start.begins in let st = splits_stand v (map cell cells) (begins.seat ∷ seats) (suc j) s n w.stands there in record {
    kept = h.kept;
    start = h.start;
    together = record { history = w.history; stands = st; locks_were_asked = still_asked_for v w.stands w.locks_were_asked st; locks_are_requested = split_requested v (map cell cells) (begins.seat ∷ seats) w.stands (suc j) s there n w.locks_are_requested };
    events = h.events;
    since = h.since;
    added = added_then cells seats h (map cell cells) (slice_set seats j (kept s n) ++ split s n ∷ []) (steps.splits j n s there refl refl);
    of = h.of;
  }

  pub joins_keep : (cells : List C) (seats : List SeatState) (j k : ℕ) (s t : SeatState)
      → StandsOn cell keeps d cells seats → get_elem? seats j ≡ some s → get_elem? seats k ≡ some t → k ≢ j → may_end t
      → StandsOn cell keeps d cells (slice_set (slice_set seats j (joined s t)) k nobody)
  joins_keep cells seats j k s t h there there_k apart rest =
      let w = h.together in
      let all = h.start.begins.seat ∷ seats in
      let both : suc k ≢ suc j = (λ (e : suc k ≡ suc j). apart (omega (arith, e))) in
      let st = join_stands v (map cell cells) all w.stands (suc j) (suc k) s t there there_k both rest in
      record {
        kept = h.kept;
        start = h.start;
        together = record { history = w.history; stands = st; locks_were_asked = still_asked_for v w.stands w.locks_were_asked st; locks_are_requested = same_requested v (contents (map cell cells)) all _ (back v (map cell cells) all w.stands (suc j) (suc k) s t there there_k both rest) w.locks_are_requested };
        events = h.events;
        since = h.since;
        added = added_then cells seats h (map cell cells) (slice_set (slice_set seats j (joined s t)) k nobody) (steps.joins j k s t there there_k apart rest refl refl);
        of = h.of;
      }
