-- A seat keeps its moments, whatever it does.
use Rattle.std.proofs.Common.{◌≡◌, ℕ, List, [], ◌∷◌, ◌++◌, flat_map, None, refl, sym, ap, ap₂, ◌∙◌, subst, ⊎_elim, append-nil, append_assoc}
use Rattle.std.proofs.lemmas.Grind.{flat_map-append}
use Rattle.spec_history.specs.Lists.{In}
use Rattle.spec_history.specs.Transcripts.{end_of_session}
use Rattle.spec_history.proofs.Settles.{in_append, in_left, in_right}
use Rattle.spec_protocol.specs.Alone.{Alone, Alones, none, more}
use Rattle.spec_protocol.specs.Alone as alone
use Rattle.spec_protocol.specs.Answering.{with_entry, written_of}
use Rattle.spec_protocol.specs.Cells.{Cell, Catalog, Ledger, Rows}
use Rattle.spec_protocol.specs.Seats.{Role, between, idle, builder, session, Session, SeatState, Written}
use Rattle.spec_protocol.specs.Server.{Server}
use Rattle.spec_protocol.specs.TranscriptsAgree.{moments_of, session_moments}
use Rattle.spec_protocol.specs.Visits.{Visit, Happens}
use Rattle.spec_protocol.specs.Visits as visit

pub record KeepsMoments (s t : SeatState) : Type 0 where
  pub keeps : (time : ℕ) → In time (moments_of s) → In time (moments_of t)

abbrev times_written : List Written → List ℕ
times_written ws = flat_map (λ (w : Written). w.moments) ws

module _ (s t : SeatState) (x y : Session) (was : s.role ≡ session x) (is : t.role ≡ session y) (written : t.written ≡ s.written) where
  -- what a seat has whose session gained these moments
  moments_are : (later : List ℕ) → y.moments ≡ x.moments ++ later → moments_of t ≡ moments_of s ++ later
  moments_are later gained = ap₂ (λ (ws : List Written) (ms : List ℕ). times_written ws ++ ms) written (ap session_moments is ∙ gained ∙ ap (λ (ms : List ℕ). ms ++ later) (sym (ap session_moments was)))
      ∙ sym (append_assoc (times_written s.written) (session_moments s.role) later)

  pub keeps_more : (later : List ℕ) → y.moments ≡ x.moments ++ later → KeepsMoments s t
  keeps_more later gained = record { keeps = λ time i. subst (In time) (sym (moments_are later gained)) (in_left time (moments_of s) later i) }

  pub gains_more : (later : List ℕ) → y.moments ≡ x.moments ++ later → (time : ℕ) → In time later → In time (moments_of t)
  gains_more later gained time i = subst (In time) (sym (moments_are later gained)) (in_right time (moments_of s) later i)

  pub same_moments : y.moments ≡ x.moments → KeepsMoments s t
  same_moments same = keeps_more [] (same ∙ sym (append-nil x.moments))

-- its session is over
over_moments : (s : SeatState) (x y : Session) → s.role ≡ session x → y.moments ≡ x.moments → KeepsMoments s (alone.over y s)
over_moments s x y role same = record {
  keeps = λ time i. subst (In time)
      (ap (λ (ms : List ℕ). times_written s.written ++ ms) (ap session_moments role ∙ sym same ∙ sym (append-nil y.moments))
      ∙ sym (flat_map-append (λ (w : Written). w.moments) s.written (written_of y ∷ [])) ∙ sym (append-nil (times_written (s.written ++ written_of y ∷ [])))) i;
}

role_moments : (s : SeatState) (role then_role : Role) → s.role ≡ role → session_moments role ≡ [] → KeepsMoments s (alone.with_role then_role s)
role_moments s role then_role e timeless = record {
  keeps = λ time i. in_left time (times_written s.written) (session_moments then_role) (⊎_elim
      (λ (k : In time (times_written s.written)). k)
      (λ (k : In time (session_moments s.role)). absurd (subst (In time) (ap session_moments e ∙ timeless) k))
      (in_append time (times_written s.written) (session_moments s.role) i));
}

module _ (v : Server) (s : SeatState) where
  alone_keeps : (t : SeatState) → Alone v s t → KeepsMoments s t
  alone_keeps _ (alone.begins name present role) = role_moments s idle (session (alone.new_session name s)) role refl
  alone_keeps _ (alone.builds present role) = role_moments s idle builder role refl
  alone_keeps _ (alone.rests role) = role_moments s builder idle role refl
  alone_keeps _ (alone.takes x text at goes) = same_moments s _ x _ at.role refl refl refl
  alone_keeps _ (alone.leaves x o at one open_end explicit) = same_moments s _ x _ at.role refl refl refl
  alone_keeps _ (alone.stops x at free) = over_moments s x x at.role refl
  alone_keeps _ (alone.refused_in x o text e at one open_end explicit is) = same_moments s _ x _ at.role refl refl refl
  alone_keeps _ (alone.refused_out x text e at free is) = same_moments s _ x _ at.role refl refl refl
  alone_keeps _ (alone.refused_checked o at named fresh e stage is) = same_moments s _ at.stands.x _ at.stands.role refl refl refl
  alone_keeps _ (alone.no_memory x text at open_end) = same_moments s _ x _ at.role refl refl refl
  alone_keeps _ (alone.no_memory_then o at named fresh stage) = same_moments s _ at.stands.x _ at.stands.role refl refl refl
  alone_keeps _ (alone.saves o at name stage explicit is few) = same_moments s _ at.stands.x _ at.stands.role refl refl refl
  alone_keeps _ (alone.has_too_many o at name stage explicit is full) = same_moments s _ at.stands.x _ at.stands.role refl refl refl
  alone_keeps _ (alone.goes_back o at name f fs stage explicit is there_is) = same_moments s _ at.stands.x _ at.stands.role refl refl refl
  alone_keeps _ (alone.has_no_savepoint o at name stage explicit is never) = same_moments s _ at.stands.x _ at.stands.role refl refl refl
  alone_keeps _ (alone.is_back o at seq stage) = same_moments s _ at.stands.x _ at.stands.role refl refl refl
  alone_keeps _ (alone.answers x text r at goes) = same_moments s _ x _ at.role refl refl refl
  alone_keeps _ (alone.answers_end x o text r def line at one is released) = same_moments s _ x _ at.role refl refl refl
  alone_keeps _ (alone.has_left x o line at one is released) = over_moments s x (with_entry (end_of_session line) None between x) at.role refl

  by_seat : (t u : SeatState) (x y : Session) → s.role ≡ session x → t ≡ u → u.role ≡ session y → u.written ≡ s.written → y.moments ≡ x.moments → KeepsMoments s t
  by_seat t u x y was e is written same = same_moments s t x y was (ap (λ (z : SeatState). z.role) e ∙ is) (ap (λ (z : SeatState). z.written) e ∙ written) same

  with_more : (t u : SeatState) (x y : Session) (time : ℕ) → s.role ≡ session x → t ≡ u → u.role ≡ session y → u.written ≡ s.written → y.moments ≡ x.moments ++ time ∷ [] → KeepsMoments s t
  with_more t u x y time was e is written gained = keeps_more s t x y was (ap (λ (z : SeatState). z.role) e ∙ is) (ap (λ (z : SeatState). z.written) e ∙ written) (time ∷ []) gained

  the_same : (t : SeatState) → t ≡ s → KeepsMoments s t
  the_same t e = record { keeps = λ time i. subst (λ (z : SeatState). In time (moments_of z)) (sym e) i }

  pub visit_keeps : (out : List (ℕ × Cell)) (how : Visit) (c d : Cell) (t : SeatState) → Happens v out how c s d t → KeepsMoments s t
  visit_keeps out (visit.assign_id explicit) (Ledger c) (Ledger d) t h = by_seat t _ h.stands.x _ h.stands.role h.seat refl refl refl
  visit_keeps out visit.look (Catalog c) (Catalog d) t h = by_seat t _ h.at.stands.x _ h.at.stands.role h.seat refl refl refl
  visit_keeps out visit.read_system (Catalog c) (Catalog d) t h = by_seat t _ h.at.stands.x _ h.at.stands.role h.seat refl refl refl
  visit_keeps out visit.create_table (Catalog c) (Catalog d) t h = by_seat t _ h.at.stands.x _ h.at.stands.role h.seat refl refl refl
  visit_keeps out visit.create_index (Catalog c) (Catalog d) t h = by_seat t _ h.at.stands.x _ h.at.stands.role h.seat refl refl refl
  visit_keeps out visit.alter_table (Catalog c) (Catalog d) t h = by_seat t _ h.at.stands.x _ h.at.stands.role h.seat refl refl refl
  visit_keeps out visit.refuse_create (Catalog c) (Catalog d) t h = by_seat t _ h.at.stands.x _ h.at.stands.role h.seat refl refl refl
  visit_keeps out visit.stop_in_catalog (Catalog c) (Catalog d) t h = by_seat t _ h.0.at.stands.x _ h.0.at.stands.role h.0.seat refl refl refl
  visit_keeps out visit.change (Rows c) (Rows d) t h = by_seat t _ h.at.at.stands.x _ h.at.at.stands.role h.seat refl refl refl
  visit_keeps out visit.refuse_change (Rows c) (Rows d) t h = by_seat t _ h.at.at.stands.x _ h.at.at.stands.role h.seat refl refl refl
  visit_keeps out visit.read (Rows c) (Rows d) t h = by_seat t _ h.at.at.stands.x _ h.at.at.stands.role h.seat refl refl refl
  visit_keeps out visit.stop_in_table (Rows c) (Rows d) t h = by_seat t _ h.0.at.at.stands.x _ h.0.at.at.stands.role h.0.seat refl refl refl
  visit_keeps out visit.add_index (Rows c) (Rows d) t h = by_seat t _ h.at.stands.x _ h.at.stands.role h.seat refl refl refl
  visit_keeps out visit.undo_to (Rows c) (Rows d) t h = by_seat t _ h.at.stands.x _ h.at.stands.role h.seat refl refl refl
  visit_keeps out (visit.commit time) (Ledger c) (Ledger d) t h = with_more t _ h.stands.x _ time h.stands.role h.seat refl refl refl
  visit_keeps out visit.read_point (Ledger c) (Ledger d) t h = by_seat t _ h.0.x _ h.0.role h.0.seat refl refl refl
  visit_keeps out visit.release (Rows c) (Rows d) t h = by_seat t _ h.x _ h.at.role h.seat refl refl refl
  visit_keeps out visit.release_catalog (Catalog c) (Catalog d) t h = by_seat t _ h.x _ h.at.role h.seat refl refl refl
  visit_keeps out visit.give_back (Catalog c) (Catalog d) t h = by_seat t _ h.at.stands.x _ h.at.stands.role h.seat refl refl refl
  visit_keeps out (visit.close k) (Ledger c) (Ledger d) t h = the_same t h.1
  visit_keeps out (visit.issue moment) (Ledger c) (Ledger d) t h = with_more t _ h.stands.x _ moment h.stands.role h.seat refl refl refl
  visit_keeps out visit.lack_block (Ledger c) (Ledger d) t h = by_seat t _ h.0.stands.x _ h.0.stands.role h.0.seat refl refl refl
  visit_keeps out visit.keep c d t h = by_seat t _ h.0.stands.x _ h.0.stands.role h.0.seat refl refl refl
  visit_keeps out visit.nothing c d t h = the_same t h.1
  visit_keeps out how c d t h = absurd h

pub one_keeps : (v : Server) (s t : SeatState) → Alone v s t → KeepsMoments s t
one_keeps v s t how = alone_keeps v s t how

pub alones_keep : (v : Server) (s t : SeatState) → Alones v s t → KeepsMoments s t
alones_keep v s _ none = record { keeps = λ time i. i }
alones_keep v s _ (more {t} {u} steps last) = record { keeps = λ time i. (alone_keeps v t u last).keeps time ((alones_keep v s t steps).keeps time i) }
