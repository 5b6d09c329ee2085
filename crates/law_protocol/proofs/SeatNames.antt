-- Whose sessions have which names: a seat keeps those of its sessions, whatever it does.
use Rattle.std.proofs.Common.{◌≡◌, ◌≢◌, ℕ, ◌<◌, List, [], ◌∷◌, ◌++◌, map, Option, Some, None, refl, sym, ap, ap₂, ◌∙◌, subst, inl, inr, ⊎_elim}
use Rattle.spec_history.specs.Lists.{Text, Some_of, In}
use Rattle.spec_history.specs.Sessions.{gone, runs, unborn, transcript_of}
use Rattle.spec_history.specs.Transactions.{listed}
use Rattle.spec_history.specs.Transcripts.{Transcript}
use Rattle.spec_history.specs.Worlds.{first, run}
use Rattle.spec_history.proofs.Settles.{in_append, in_left, in_right}
use Rattle.spec_protocol.specs.Alone.{Alone, Alones, none, more}
use Rattle.spec_protocol.specs.Alone as alone
use Rattle.spec_history.specs.Transcripts.{end_of_session}
use Rattle.spec_protocol.specs.Answering.{with_entry, written_of}
use Rattle.spec_protocol.specs.Cells.{Cell, Catalog, Ledger, LedgerCell, Rows}
use Rattle.spec_protocol.specs.Parts.{Now}
use Rattle.spec_protocol.specs.SeatNames.{names_of, session_names}
use Rattle.spec_protocol.specs.Seats.{Role, between, idle, builder, session, Session, SeatState, Written}
use Rattle.spec_protocol.specs.Server.{Server}
use Rattle.spec_protocol.specs.StandTogether.{History}
use Rattle.spec_protocol.specs.TranscriptsAgree.{TranscriptsAgree}
use Rattle.spec_protocol.specs.Visits.{Visit, Happens}
use Rattle.spec_protocol.specs.Visits as visit
use Rattle.law_protocol_ledger.proofs.NoneWanting.{listed_is, past_over}
use Rattle.law_protocol_ledger.proofs.TheEnd.{past_has}

-- ---- a session's name is one of its seat's

module _ (v : Server) (history : History) (ledger : LedgerCell) (seats : List SeatState) (agree : TranscriptsAgree v history ledger seats) where
  written_name : (ws : List Written) (x : Transcript) → Some_of (λ w. w.transcript ≡ x) ws → In x.session (map (λ w. w.transcript.session) ws)
  written_name [] x h = absurd h
  written_name (w ∷ ws) x (inl e) = inl (ap (λ (z : Transcript). z.session) e)
  written_name (w ∷ ws) x (inr h) = inr (written_name ws x h)

  now_name : (n : ℕ) (r : Role) → Now history v.meaning (Some n) r → In ((run first history).at n).name (session_names r)
  now_name n (session x) h = inl (ap (λ (z : Transcript). z.session) (sym h.0.transcript))
  now_name n r h = absurd h

  pub name_there : (n : ℕ) (l : n < agree.count) → In ((run first history).at n).name (names_of (agree.all n l).0)
  name_there n l = let a = agree.all n l in let j = agree.owner n in let name = ((run first history).at n).name in ⊎_elim
      (λ (k : In n (agree.of_seat j).past). in_left name (map (λ w. w.transcript.session) a.0.written) (session_names a.0.role) (written_name a.0.written (transcript_of ((run first history).at n)) (past_has history (agree.of_seat j).past a.0.written n (agree.agree j a.0 a.1).sessions.past k)))
      (λ (k : In n (listed (agree.of_seat j).now)). in_right name (map (λ w. w.transcript.session) a.0.written) (session_names a.0.role) (now_name n a.0.role (subst (λ (o : Option ℕ). Now history v.meaning o a.0.role) (listed_is n (agree.of_seat j).now k) (agree.agree j a.0 a.1).sessions.now)))
      (in_append n (agree.of_seat j).past (listed (agree.of_seat j).now) a.2)

  begun_now : (n : ℕ) (r : Role) → Now history v.meaning (Some n) r → ((run first history).at n).phase ≢ unborn
  begun_now n (session x) h = λ e. let f : runs ≡ unborn = sym h.0.running ∙ e in cc
  begun_now n r h = absurd h

  -- and it has begun
  pub has_begun : (n : ℕ) → n < agree.count → ((run first history).at n).phase ≢ unborn
  has_begun n l = let a = agree.all n l in let j = agree.owner n in ⊎_elim
      (λ (k : In n (agree.of_seat j).past). λ e. (let f : gone ≡ unborn = sym (past_over history (agree.of_seat j).past a.0.written n (agree.agree j a.0 a.1).sessions.past k) ∙ e in cc))
      (λ (k : In n (listed (agree.of_seat j).now)). begun_now n a.0.role (subst (λ (o : Option ℕ). Now history v.meaning o a.0.role) (listed_is n (agree.of_seat j).now k) (agree.agree j a.0 a.1).sessions.now))
      (in_append n (agree.of_seat j).past (listed (agree.of_seat j).now) a.2)

-- ---- a seat keeps its names

pub record KeepsNames (s t : SeatState) : Type 0 where
  pub keeps : (name : Text) → In name (names_of s) → In name (names_of t)

same_names : (s t : SeatState) (x y : Session) → s.role ≡ session x → t.role ≡ session y → t.written ≡ s.written → y.transcript.session ≡ x.transcript.session → KeepsNames s t
same_names s t x y was is written name = record {
  keeps = λ n i. subst (In n)
      (ap₂ (λ (ws : List Written) (ns : List Text). map (λ w. w.transcript.session) ws ++ ns) (sym written) (ap session_names was ∙ ap (λ (m : Text). m ∷ []) (sym name) ∙ sym (ap session_names is))) i;
}

written_last : (ws : List Written) (w : Written) (names : List Text) (n : Text) → In n (map (λ z. z.transcript.session) ws ++ w.transcript.session ∷ names) → In n (map (λ z. z.transcript.session) (ws ++ w ∷ []) ++ names)
written_last [] w names n i = i
written_last (u ∷ us) w names n i = ⊎_elim (λ (e : u.transcript.session ≡ n). inl e) (λ k. inr (written_last us w names n k)) i

-- its session is over
over_names : (s : SeatState) (x y : Session) → s.role ≡ session x → y.transcript.session ≡ x.transcript.session → KeepsNames s (alone.over y s)
over_names s x y role name = record { keeps = λ n i. written_last s.written (written_of y) [] n (subst (In n) (ap (λ (ns : List Text). map (λ w. w.transcript.session) s.written ++ ns) (ap session_names role ∙ ap (λ (m : Text). m ∷ []) (sym name))) i) }

role_names : (s : SeatState) (role then_role : Role) → s.role ≡ role → session_names role ≡ [] → KeepsNames s (alone.with_role then_role s)
role_names s role then_role e nameless = record {
  keeps = λ n i. in_left n (map (λ w. w.transcript.session) s.written) (session_names then_role) (⊎_elim
      (λ (k : In n (map (λ w. w.transcript.session) s.written)). k)
      (λ (k : In n (session_names s.role)). absurd (subst (In n) (ap session_names e ∙ nameless) k))
      (in_append n (map (λ w. w.transcript.session) s.written) (session_names s.role) i));
}

module _ (v : Server) (s : SeatState) where
  pub alone_names : (t : SeatState) → Alone v s t → KeepsNames s t
  alone_names _ (alone.begins name present role) = role_names s idle (session (alone.new_session name s)) role refl
  alone_names _ (alone.builds present role) = role_names s idle builder role refl
  alone_names _ (alone.rests role) = role_names s builder idle role refl
  alone_names _ (alone.takes x text at goes) = same_names s _ x _ at.role refl refl refl
  alone_names _ (alone.leaves x o at one open_end explicit) = same_names s _ x _ at.role refl refl refl
  alone_names _ (alone.stops x at free) = over_names s x x at.role refl
  alone_names _ (alone.refused_in x o text e at one open_end explicit is) = same_names s _ x _ at.role refl refl refl
  alone_names _ (alone.refused_out x text e at free is) = same_names s _ x _ at.role refl refl refl
  alone_names _ (alone.refused_checked o at named fresh e stage is) = same_names s _ at.stands.x _ at.stands.role refl refl refl
  alone_names _ (alone.no_memory x text at open_end) = same_names s _ x _ at.role refl refl refl
  alone_names _ (alone.no_memory_then o at named fresh stage) = same_names s _ at.stands.x _ at.stands.role refl refl refl
  alone_names _ (alone.saves o at name stage explicit is few) = same_names s _ at.stands.x _ at.stands.role refl refl refl
  alone_names _ (alone.has_too_many o at name stage explicit is full) = same_names s _ at.stands.x _ at.stands.role refl refl refl
  alone_names _ (alone.goes_back o at name f fs stage explicit is there_is) = same_names s _ at.stands.x _ at.stands.role refl refl refl
  alone_names _ (alone.has_no_savepoint o at name stage explicit is never) = same_names s _ at.stands.x _ at.stands.role refl refl refl
  alone_names _ (alone.is_back o at seq stage) = same_names s _ at.stands.x _ at.stands.role refl refl refl
  alone_names _ (alone.answers x text r at goes) = same_names s _ x _ at.role refl refl refl
  alone_names _ (alone.answers_end x o text r def line at one is released) = same_names s _ x _ at.role refl refl refl
  alone_names _ (alone.has_left x o line at one is released) = over_names s x (with_entry (end_of_session line) None between x) at.role refl

  by_seat : (t u : SeatState) (x y : Session) → s.role ≡ session x → t ≡ u → u.role ≡ session y → u.written ≡ s.written → y.transcript.session ≡ x.transcript.session → KeepsNames s t
  by_seat t u x y was e is written name = same_names s t x y was (ap (λ (z : SeatState). z.role) e ∙ is) (ap (λ (z : SeatState). z.written) e ∙ written) name

  the_same : (t : SeatState) → t ≡ s → KeepsNames s t
  the_same t e = record { keeps = λ n i. subst (λ (z : SeatState). In n (names_of z)) (sym e) i }

  pub visit_names : (out : List (ℕ × Cell)) (how : Visit) (c d : Cell) (t : SeatState) → Happens v out how c s d t → KeepsNames s t
  visit_names out (visit.assign_id explicit) (Ledger c) (Ledger d) t h = by_seat t _ h.stands.x _ h.stands.role h.seat refl refl refl
  visit_names out visit.look (Catalog c) (Catalog d) t h = by_seat t _ h.at.stands.x _ h.at.stands.role h.seat refl refl refl
  visit_names out visit.read_system (Catalog c) (Catalog d) t h = by_seat t _ h.at.stands.x _ h.at.stands.role h.seat refl refl refl
  visit_names out visit.create_table (Catalog c) (Catalog d) t h = by_seat t _ h.at.stands.x _ h.at.stands.role h.seat refl refl refl
  visit_names out visit.create_index (Catalog c) (Catalog d) t h = by_seat t _ h.at.stands.x _ h.at.stands.role h.seat refl refl refl
  visit_names out visit.alter_table (Catalog c) (Catalog d) t h = by_seat t _ h.at.stands.x _ h.at.stands.role h.seat refl refl refl
  visit_names out visit.refuse_create (Catalog c) (Catalog d) t h = by_seat t _ h.at.stands.x _ h.at.stands.role h.seat refl refl refl
  visit_names out visit.stop_in_catalog (Catalog c) (Catalog d) t h = by_seat t _ h.0.at.stands.x _ h.0.at.stands.role h.0.seat refl refl refl
  visit_names out visit.change (Rows c) (Rows d) t h = by_seat t _ h.at.at.stands.x _ h.at.at.stands.role h.seat refl refl refl
  visit_names out visit.refuse_change (Rows c) (Rows d) t h = by_seat t _ h.at.at.stands.x _ h.at.at.stands.role h.seat refl refl refl
  visit_names out visit.read (Rows c) (Rows d) t h = by_seat t _ h.at.at.stands.x _ h.at.at.stands.role h.seat refl refl refl
  visit_names out visit.stop_in_table (Rows c) (Rows d) t h = by_seat t _ h.0.at.at.stands.x _ h.0.at.at.stands.role h.0.seat refl refl refl
  visit_names out visit.add_index (Rows c) (Rows d) t h = by_seat t _ h.at.stands.x _ h.at.stands.role h.seat refl refl refl
  visit_names out visit.undo_to (Rows c) (Rows d) t h = by_seat t _ h.at.stands.x _ h.at.stands.role h.seat refl refl refl
  visit_names out (visit.commit time) (Ledger c) (Ledger d) t h = by_seat t _ h.stands.x _ h.stands.role h.seat refl refl refl
  visit_names out visit.read_point (Ledger c) (Ledger d) t h = by_seat t _ h.0.x _ h.0.role h.0.seat refl refl refl
  visit_names out visit.release (Rows c) (Rows d) t h = by_seat t _ h.x _ h.at.role h.seat refl refl refl
  visit_names out visit.release_catalog (Catalog c) (Catalog d) t h = by_seat t _ h.x _ h.at.role h.seat refl refl refl
  visit_names out visit.give_back (Catalog c) (Catalog d) t h = by_seat t _ h.at.stands.x _ h.at.stands.role h.seat refl refl refl
  visit_names out (visit.close k) (Ledger c) (Ledger d) t h = the_same t h.1
  visit_names out (visit.issue moment) (Ledger c) (Ledger d) t h = by_seat t _ h.stands.x _ h.stands.role h.seat refl refl refl
  visit_names out visit.lack_block (Ledger c) (Ledger d) t h = by_seat t _ h.0.stands.x _ h.0.stands.role h.0.seat refl refl refl
  visit_names out visit.keep c d t h = by_seat t _ h.0.stands.x _ h.0.stands.role h.0.seat refl refl refl
  visit_names out visit.nothing c d t h = the_same t h.1
  visit_names out how c d t h = absurd h

pub alones_names : (v : Server) (s t : SeatState) → Alones v s t → KeepsNames s t
alones_names v s _ none = record { keeps = λ n i. i }
alones_names v s _ (more {t} {u} steps last) = record { keeps = λ n i. (alone_names v t u last).keeps n ((alones_names v s t steps).keeps n i) }
