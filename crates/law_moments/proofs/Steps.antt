-- Steps keep moments, and add to the journal what has moments of their seats, and blocks of at most the block size.
use Rattle.std.proofs.Common.{◌≡◌, ◌≢◌, ℕ, zero, suc, List, [], ◌∷◌, ◌++◌, flat_map, slice_set, refl, sym, ap, ◌∙◌, subst, ⊎_elim, append-nil, append_assoc}
use Rattle.std.proofs.lemmas.Bool.{cases_eq}
use Rattle.std.proofs.lemmas.Grind.{flat_map-append}
use mathlib.Core.Option.{some, some-injective, some-ne-none}
use lib.ListN.{get_elem?}
use Rattle.sql_types.specs.declared.journal.JournalItem.{JournalItem}
use Rattle.spec_history.specs.Journals.{times}
use Rattle.spec_history.specs.Lists.{Each, In}
use Rattle.spec_history.proofs.Grows.{times_append}
use Rattle.spec_history.proofs.Settles.{in_append, in_left, in_right}
use Rattle.spec_history.proofs.Trace.{each_append, each_weaker}
use Rattle.spec_protocol.specs.AllowedVisit.{OutsAreIn}
use Rattle.spec_protocol.specs.Cells.{Cell, Ledger, LedgerCell, ledger_at}
use Rattle.spec_protocol.specs.Seats.{IsAtRest, Role, builder, idle, joined, kept, nobody, session, SeatState, split, Written}
use Rattle.spec_protocol.specs.Server.{Server}
use Rattle.spec_protocol.specs.Steps as step
use Rattle.spec_protocol.specs.Steps.{Step, Steps, Visits}
use Rattle.spec_protocol.specs.TranscriptsAgree.{IsMoment, moments_of, session_moments}
use Rattle.spec_protocol.specs.Visits.{Happens}
use Rattle.spec_protocol.proofs.Places.{set_else, set_here}
use Rattle.law_moments.specs.AddedInTime.{AddedInTime, FitsBlock}
use Rattle.law_moments.proofs.AddsAt.{Adds, AddsThen, visit_adds}
use Rattle.law_moments.proofs.Keeps.{KeepsMoments, alones_keep, one_keeps, visit_keeps}

-- ---- moments of seats

abbrev MomentsStay : List SeatState → List SeatState → Type 0
MomentsStay seats then_seats = (time : ℕ) → IsMoment seats time → IsMoment then_seats time

moment_set : (seats : List SeatState) (j : ℕ) (s t : SeatState) → get_elem? seats j ≡ some s → KeepsMoments s t → MomentsStay seats (slice_set seats j t)
moment_set seats j s t there keeps time m = ⊎_elim
    (λ (e : m.j ≡ j). record { j = j; seat = t; there = set_here seats j t s there; is = keeps.keeps time (subst (λ (u : SeatState). In time (moments_of u)) (some-injective m.seat s (sym m.there ∙ ap (get_elem? seats) e ∙ there)) m.is) })
    (λ (ne : m.j ≢ j). record { j = m.j; seat = m.seat; there = set_else seats j m.j t ne ∙ m.there; is = m.is })
    (cases_eq m.j j)

-- a seat behind all others
still_there : (seats : List SeatState) (u : SeatState) (k : ℕ) (t : SeatState) → get_elem? seats k ≡ some t → get_elem? (seats ++ u ∷ []) k ≡ some t
still_there [] u k t e = absurd (some-ne-none t (sym e))
still_there (s ∷ seats) u zero t e = e
still_there (s ∷ seats) u (suc k) t e = still_there seats u k t e

moment_last : (seats : List SeatState) (u : SeatState) → MomentsStay seats (seats ++ u ∷ [])
moment_last seats u time m = record { j = m.j; seat = m.seat; there = still_there seats u m.j m.seat m.there; is = m.is }

-- ---- one seat takes in another

rests_timeless : (r : Role) → IsAtRest r → session_moments r ≡ []
rests_timeless idle rest = refl
rests_timeless builder rest = refl
rests_timeless (session x) rest = absurd rest

module _ (s t : SeatState) where
  abbrev times_written : List Written → List ℕ
  times_written ws = flat_map (λ (w : Written). w.moments) ws

  both_written : moments_of (joined s t) ≡ (times_written s.written ++ times_written t.written) ++ session_moments s.role
  both_written = ap (λ (l : List ℕ). l ++ session_moments s.role) (flat_map-append (λ (w : Written). w.moments) s.written t.written)

  of_first : KeepsMoments s (joined s t)
  of_first = record {
    keeps = λ time i. subst (In time) (sym both_written) (⊎_elim
        (λ (k : In time (times_written s.written)). in_left time (times_written s.written ++ times_written t.written) (session_moments s.role) (in_left time (times_written s.written) (times_written t.written) k))
        (λ (k : In time (session_moments s.role)). in_right time (times_written s.written ++ times_written t.written) (session_moments s.role) k)
        (in_append time (times_written s.written) (session_moments s.role) i));
  }

  of_second : IsAtRest t.role → KeepsMoments t (joined s t)
  of_second rest = record {
    keeps = λ time i. subst (In time) (sym both_written) (in_left time (times_written s.written ++ times_written t.written) (session_moments s.role) (in_right time (times_written s.written) (times_written t.written)
        (subst (In time) (ap (λ (l : List ℕ). times_written t.written ++ l) (rests_timeless t.role rest) ∙ append-nil (times_written t.written)) i)));
  }

moment_join : (seats : List SeatState) (j k : ℕ) (s t : SeatState) → get_elem? seats j ≡ some s → get_elem? seats k ≡ some t → k ≢ j → IsAtRest t.role
    → MomentsStay seats (slice_set (slice_set seats j (joined s t)) k nobody)
moment_join seats j k s t there there_k apart rest time m = ⊎_elim
    (λ (e : m.j ≡ k). at_j ((of_second s t rest).keeps time (subst (λ (u : SeatState). In time (moments_of u)) (some-injective m.seat t (sym m.there ∙ ap (get_elem? seats) e ∙ there_k)) m.is)))
    (λ (ne : m.j ≢ k). ⊎_elim
    (λ (e : m.j ≡ j). at_j ((of_first s t).keeps time (subst (λ (u : SeatState). In time (moments_of u)) (some-injective m.seat s (sym m.there ∙ ap (get_elem? seats) e ∙ there)) m.is)))
    (λ (nj : m.j ≢ j). record { j = m.j; seat = m.seat; there = set_else (slice_set seats j (joined s t)) k m.j nobody ne ∙ set_else seats j m.j (joined s t) nj ∙ m.there; is = m.is })
    (cases_eq m.j j))
    (cases_eq m.j k)
  where
    at_j : In time (moments_of (joined s t)) → IsMoment (slice_set (slice_set seats j (joined s t)) k nobody) time
    at_j i = record { j = j; seat = joined s t; there = set_else (slice_set seats j (joined s t)) k j nobody (λ e. apart (sym e)) ∙ set_here seats j (joined s t) s there; is = i }

-- ---- what is added

added_stays : (past : List JournalItem) (seats then_seats : List SeatState) (l : LedgerCell) → MomentsStay seats then_seats → AddedInTime past seats l → AddedInTime past then_seats l
added_stays past seats then_seats l stay a = record {
  added = a.added;
  are = a.are;
  closings = a.closings;
  times = each_weaker (IsMoment seats) (IsMoment then_seats) stay (times a.added) a.times;
  made = each_weaker (λ d. IsMoment seats d.made) (λ d. IsMoment then_seats d.made) (λ d m. stay d.made m) l.issued a.made;
}

module _ (past : List JournalItem) (seats : List SeatState) (l m : LedgerCell) (j : ℕ) (s t : SeatState) (there : get_elem? seats j ≡ some s) where
  abbrev seats_then : List SeatState
  seats_then = slice_set seats j t

  of_seat : (time : ℕ) → In time (moments_of t) → IsMoment seats_then time
  of_seat time i = record { j = j; seat = t; there = set_here seats j t s there; is = i }

  added_more : AddedInTime past seats_then l → Adds t l m → AddedInTime past seats_then m
  added_more a adds = record {
    added = a.added ++ adds.items;
    are = adds.are ∙ ap (λ (is : List JournalItem). is ++ adds.items) a.are ∙ append_assoc past a.added adds.items;
    closings = subst (λ (size : ℕ). Each (FitsBlock size) (a.added ++ adds.items)) (sym adds.block_size)
        (each_append (FitsBlock l.block_size) a.added adds.items a.closings adds.closings);
    times = subst (Each (IsMoment seats_then)) (sym (times_append a.added adds.items))
        (each_append (IsMoment seats_then) (times a.added) (times adds.items) a.times (each_weaker (λ time. In time (moments_of t)) (IsMoment seats_then) of_seat (times adds.items) adds.times));
    made = subst (Each (λ d. IsMoment seats_then d.made)) (sym adds.issued)
        (each_append (λ d. IsMoment seats_then d.made) l.issued adds.digests a.made (each_weaker (λ g. In g.made (moments_of t)) (λ d. IsMoment seats_then d.made) (λ g i. of_seat g.made i) adds.digests adds.made));
  }

moments_later : (s t : SeatState) (l m : LedgerCell) → KeepsMoments s t → Adds s l m → Adds t l m
moments_later s t l m keeps a = record {
  items = a.items;
  are = a.are;
  block_size = a.block_size;
  closings = a.closings;
  times = each_weaker (λ time. In time (moments_of s)) (λ time. In time (moments_of t)) keeps.keeps (times a.items) a.times;
  digests = a.digests;
  issued = a.issued;
  made = each_weaker (λ g. In g.made (moments_of s)) (λ g. In g.made (moments_of t)) (λ g i. keeps.keeps g.made i) a.digests a.made;
}

-- ---- steps

abbrev Then : List JournalItem → List Cell → List SeatState → Type 0
Then past then_cells then_seats = (m : LedgerCell) × (get_elem? then_cells ledger_at ≡ some (Ledger m)) × AddedInTime past then_seats m

module _ (v : Server) (past : List JournalItem) (cells : List Cell) (seats : List SeatState) (l : LedgerCell) (lies : get_elem? cells ledger_at ≡ some (Ledger l)) (a : AddedInTime past seats l) where
  -- the cells stay
  seats_alone : (then_seats : List SeatState) → MomentsStay seats then_seats → Then past cells then_seats
  seats_alone then_seats stay = (l, lies, added_stays past seats then_seats l stay a)

  module _ (then_cells : List Cell) (then_seats : List SeatState) (w : Visits v cells seats then_cells then_seats) where
    was : get_elem? cells w.i ≡ some w.may.old
    was = (subst (OutsAreIn cells) w.may.is_out w.are_out).0

    keeps : KeepsMoments w.s w.t
    keeps = record {
      keeps = λ time i. (alones_keep v w.may.ended w.t w.may.after).keeps time
          ((visit_keeps v w.may.begun w.out w.may.visit w.may.old w.c w.may.ended w.may.happens).keeps time ((alones_keep v w.s w.may.begun w.may.before).keeps time i));
    }

    abbrev after : List SeatState
    after = slice_set seats w.j w.t

    stays : AddedInTime past after l
    stays = added_stays past seats after l (moment_set seats w.j w.s w.t w.is_seat keeps) a

    in_ledger : w.i ≡ ledger_at → Then past (slice_set cells w.i w.c) after
    in_ledger here =
        let old_is : w.may.old ≡ Ledger l = some-injective w.may.old (Ledger l) (sym was ∙ ap (get_elem? cells) here ∙ lies) in
        let adds : AddsThen w.may.ended l w.c = visit_adds v w.may.begun w.out w.may.visit l w.c w.may.ended (subst (λ (c : Cell). Happens v w.out w.may.visit c w.may.begun w.c w.may.ended) old_is w.may.happens) in (
          adds.ledger,
          ap (get_elem? (slice_set cells w.i w.c)) (sym here) ∙ set_here cells w.i w.c w.may.old was ∙ ap some adds.is,
          added_more past seats l adds.ledger w.j w.s w.t w.is_seat stays (moments_later w.may.ended w.t l adds.ledger (alones_keep v w.may.ended w.t w.may.after) adds.adds),
        )

    elsewhere : ledger_at ≢ w.i → Then past (slice_set cells w.i w.c) after
    elsewhere ne = (l, set_else cells w.i ledger_at w.c ne ∙ lies, stays)

    visits_then : Then past then_cells then_seats
    visits_then = subst (λ (us : List SeatState). Then past then_cells us) (sym w.seats_are)
        (subst (λ (cs : List Cell). Then past cs after) (sym w.cells_are)
        (⊎_elim (λ (e : w.i ≡ ledger_at). in_ledger e) (λ (ne : w.i ≢ ledger_at). elsewhere (λ e. ne (sym e))) (cases_eq w.i ledger_at)))

  pub one_step_then : (then_cells : List Cell) (then_seats : List SeatState) → Step v cells seats then_cells then_seats → Then past then_cells then_seats
  one_step_then then_cells then_seats (step.alone j s t there how same are) = subst (λ (cs : List Cell). Then past cs then_seats) (sym same)
      (subst (λ (us : List SeatState). Then past cells us) (sym are) (seats_alone (slice_set seats j t) (moment_set seats j s t there (one_keeps v s t how))))
  one_step_then then_cells then_seats (step.visits w) = visits_then then_cells then_seats w
  one_step_then then_cells then_seats (step.splits j n s there same are) = subst (λ (cs : List Cell). Then past cs then_seats) (sym same)
      (subst (λ (us : List SeatState). Then past cells us) (sym are)
      (seats_alone (slice_set seats j (kept s n) ++ split s n ∷ []) (λ time m. moment_last (slice_set seats j (kept s n)) (split s n) time (moment_set seats j s (kept s n) there (record { keeps = λ time i. i }) time m))))
  one_step_then then_cells then_seats (step.joins j k s t there there_k apart ends same are) = subst (λ (cs : List Cell). Then past cs then_seats) (sym same)
      (subst (λ (us : List SeatState). Then past cells us) (sym are)
      (seats_alone (slice_set (slice_set seats j (joined s t)) k nobody) (moment_join seats j k s t there there_k apart ends)))

pub one_step : (v : Server) (past : List JournalItem) (cells then_cells : List Cell) (seats then_seats : List SeatState) → Step v cells seats then_cells then_seats
    → (l : LedgerCell) → get_elem? cells ledger_at ≡ some (Ledger l) → AddedInTime past seats l → Then past then_cells then_seats
one_step v past cells then_cells seats then_seats s l lies a = one_step_then v past cells seats l lies a then_cells then_seats s

pub all_steps : (v : Server) (past : List JournalItem) (cells : List Cell) (seats : List SeatState) (then_cells : List Cell) (then_seats : List SeatState) → Steps v cells seats then_cells then_seats
    → (l : LedgerCell) → get_elem? cells ledger_at ≡ some (Ledger l) → AddedInTime past seats l → Then past then_cells then_seats
all_steps v past cells seats _ _ step.none l lies a = (l, lies, a)
all_steps v past cells seats _ _ (step.more {between_cells} {between_seats} {then_cells} {then_seats} first last) l lies a =
    let r = all_steps v past cells seats between_cells between_seats first l lies a in
    one_step v past between_cells then_cells between_seats then_seats last r.0 r.1 r.2
