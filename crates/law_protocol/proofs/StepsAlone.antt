-- Each visit, and each step that a seat takes by itself, while all other seats are between statements.
use Rattle.std.proofs.Common.{◌≡◌, ℕ, zero, suc, Bool, true, false, List, [], ◌∷◌, ◌++◌, ◌+◌, map, Option, Some, None, slice_set, refl, sym, ap, ◌∙◌, subst}
use Rattle.std.specs.Prelude.{if◌then◌else◌, nat_le}
use mathlib.Core.Option.{some}
use lib.ListN.{get_elem?}
use Rattle.sql_types.specs.declared.lock.Hold.{Hold}
use Rattle.sql_types.specs.declared.lock.LockRequest.{LockRequest}
use Rattle.sql_types.specs.declared.reply.Reply.{Reply}
use Rattle.spec_model.specs.Journals.{Line, tx_count}
use Rattle.spec_history.specs.Acts.{SessionAct, starts, takes, says, fails, commits, ends, issues, stops, Act, by, closes}
use Rattle.spec_history.specs.Guards.{Good}
use Rattle.spec_history.specs.Histories.{OneAtATime}
use Rattle.spec_history.specs.Lists.{Text, Each}
use Rattle.spec_history.specs.Meaning.{Meaning}
use Rattle.spec_history.specs.Transactions.{unfixed}
use Rattle.spec_history.specs.Transcripts.{Kind, unread, begin, commit, roll_back, to_savepoint, create, rows, issue, keep, kind_of}
use Rattle.spec_history.specs.Worlds.{World, first, run, step}
use Rattle.spec_history.proofs.Cuts.{good_append}
use Rattle.spec_protocol.specs.Server.{Server}
use Rattle.spec_protocol.specs.ActsOf.{closings, done_acts, checked_acts, end_acts, failed_acts, failed_in, alone_acts}
use Rattle.spec_protocol.specs.Alone.{Alone}
use Rattle.spec_protocol.specs.Alone as alone
use Rattle.spec_protocol.specs.Cells.{Cell, Catalog, Ledger, LedgerCell, Rows, pending_in}
use Rattle.spec_protocol.specs.AnonymousActs.{AnonymousAct, did, closed, anonymous_act, stopped_acts, visit_anonymous_acts}
use Rattle.spec_protocol.specs.Doing.{Stopped, blocked, no_memory}
use Rattle.spec_protocol.specs.LedgerVisits.{Ends, commits_nothing, rolls_back, leaves, did_nothing, was_refused, lacks_memory, lacks_index, closed_by, next_block}
use Rattle.spec_protocol.specs.InactiveExcept.{IsInactive, InactiveExcept}
use Rattle.spec_protocol.specs.OpenOnes.{lines_at, text_at}
use Rattle.spec_protocol.specs.Seats.{OpenTransaction, SessionStatus, between, inside, leaving, StatementProgress, Session, SeatState, Role, idle, session}
use Rattle.spec_protocol.specs.StandTogether.{History, Stands, StandsDone}
use Rattle.spec_protocol.specs.TranscriptsSoFar.{end_shown, shown_at}
use Rattle.spec_protocol.specs.Visits as visit
use Rattle.spec_protocol.specs.Visits.{Visit, Happens}
use Rattle.law_protocol.proofs.OneAtATime.{IsPlain, answers_end, answers_one, inside_alone, leaves_last, none_does, one_leaving, one_inactive}
use Rattle.spec_protocol.proofs.Places.{set_here}

-- ---- plain acts

either_plain : (b : Bool) (k : ℕ) (es : List Act) (more : List AnonymousAct) → Each IsPlain more → Each IsPlain (map anonymous_act es ++ more) → Each IsPlain (map anonymous_act (if b then [] else closes k ∷ es) ++ more)
either_plain true k es more h rest = h
either_plain false k es more h rest = (tt, rest)

pub closings_plain : (v : Server) (n : ℕ) (c : LedgerCell) (more : List AnonymousAct) → Each IsPlain more → Each IsPlain (map anonymous_act (closings v n c) ++ more)
closings_plain v zero c more h = h
closings_plain v (suc n) c more h = either_plain (nat_le (pending_in c) 0) (next_block c) (closings v n (closed_by v.hash (next_block c) c)) more h (closings_plain v n (closed_by v.hash (next_block c) c) more h)

pub done_plain : (b : Bool) (text : Text) (table : Bool) (r : Reply) → Each IsPlain (map did (done_acts b text table r))
done_plain true text table r = (tt, tt)
done_plain false text table r = (tt, tt)

pub checked_plain : (b : Bool) (text : Text) (r : Reply) → Each IsPlain (map did (checked_acts b text r))
checked_plain true text r = (tt, tt)
checked_plain false text r = tt

failed_plain : (kind : Kind) (text : Text) → Each IsPlain (map did (failed_acts kind text))
failed_plain unread text = (tt, tt)
failed_plain begin text = (tt, tt)
failed_plain commit text = tt
failed_plain roll_back text = tt
failed_plain to_savepoint text = (tt, tt)
failed_plain create text = (tt, tt)
failed_plain rows text = (tt, tt)
failed_plain issue text = (tt, tt)
failed_plain keep text = (tt, tt)

pub failed_in_plain : (q : Meaning) (o : Option OpenTransaction) (text : Text) → Each IsPlain (map did (failed_in q o text))
failed_in_plain q None text = tt
failed_in_plain q (Some o) text = by o.explicit
  where
    by : (b : Bool) → Each IsPlain (map did (if b then failed_acts (kind_of (q.reads text)) text else fails text ∷ []))
    by true = failed_plain (kind_of (q.reads text)) text
    by false = (tt, tt)

pub stopped_plain : {holds : List Hold} {id : ℕ} {requests : List LockRequest} {r : Reply} (why : Stopped holds id requests r) (text : Text) (fail : List SessionAct) → Each IsPlain (map did fail) → Each IsPlain (map did (stopped_acts why text fail))
stopped_plain (blocked c e) text fail h = (tt, tt)
stopped_plain no_memory text fail h = h

pub says_plain : (ls : List Line) (more : List SessionAct) → Each IsPlain (map did more) → Each IsPlain (map did (map says ls ++ more))
says_plain [] more h = h
says_plain (l ∷ ls) more h = (tt, says_plain ls more h)

pub end_plain : {v : Server} {x : Session} {o : OpenTransaction} {back : Bool} {script : List Line} {place : SessionStatus} (e : Ends v x o back script place) (n : ℕ) → Each IsPlain (map did (end_acts e n))
end_plain (commits_nothing text a b c d) n = (tt, tt)
end_plain (rolls_back text a b c) n = (tt, tt)
end_plain (leaves a b) n = (tt, tt)
end_plain (did_nothing text r a b c) n = (tt, (tt, tt))
end_plain (was_refused text r a b) n = (tt, tt)
end_plain (lacks_memory text r a b) n = (tt, (tt, tt))
end_plain (lacks_index text def indexed a b) n = (tt, (tt, tt))

-- nothing but closings
abbrev IsClosed : AnonymousAct → Type 0
IsClosed (did act) = ⊥
IsClosed (closed k) = Unit {0}

closings_alone : (w : World) (es : List Act) → Each IsClosed (map anonymous_act es) → OneAtATime w es
closings_alone w [] h = tt
closings_alone w (by n a ∷ es) h = absurd h.0
closings_alone w (closes k ∷ es) h = closings_alone (step w (closes k)) es h.1

quiet_idle : (r : Role) → r ≡ idle → IsInactive r
quiet_idle r e = subst IsInactive (sym e) tt

quiet_between : (r : Role) (x : Session) → r ≡ session x → x.place ≡ between → IsInactive r
quiet_between r x e at = subst IsInactive (sym e) at

module _ (v : Server) {history : History} {cells : List Cell} {seats : List SeatState} (st : Stands v history cells seats) (j : ℕ) (s : SeatState) (there : get_elem? seats j ≡ some s) (quiet : InactiveExcept seats j) where
  module _ {anonymous_acts : List AnonymousAct} {then_cells : List Cell} (t : SeatState) (d : StandsDone v j history anonymous_acts then_cells (slice_set seats j t)) where
    abbrev Alone_then : Type 0
    Alone_then = OneAtATime (run first history) d.events

    good : Good v.meaning d.stands.ledger.database (run first history) d.events
    good = (good_append v.meaning d.stands.ledger.database first history d.events d.stands.transcripts_agree.good).1

    inside_then : (x : Session) → s.role ≡ session x → Each IsPlain anonymous_acts → (y : Session) → t.role ≡ session y → (text : Text) (stage : StatementProgress) → y.place ≡ inside text stage → Alone_then
    inside_then x role plain y role_then text stage place = inside_alone v st j s there quiet x role d.events (subst (Each IsPlain) (sym d.are) plain) d.stands d.mine t (set_here seats j t s there) y role_then text stage place

  pub alone_one_at_a_time : {then_cells : List Cell} (t : SeatState) (how : Alone v s t) (d : StandsDone v j history (map did (alone_acts how)) then_cells (slice_set seats j t)) → OneAtATime (run first history) d.events
  alone_one_at_a_time _ (alone.begins name present role) d = one_inactive v st j s there quiet (quiet_idle s.role role) d.events (starts name) d.are
  alone_one_at_a_time _ (alone.builds present role) d = none_does v st j s there quiet d.events d.are
  alone_one_at_a_time _ (alone.rests role) d = none_does v st j s there quiet d.events d.are
  alone_one_at_a_time _ (alone.takes x text at goes) d = one_inactive v st j s there quiet (quiet_between s.role x at.role at.here) d.events (takes text) d.are
  alone_one_at_a_time _ (alone.leaves x o at one open_end explicit) d = none_does v st j s there quiet d.events d.are
  alone_one_at_a_time _ (alone.stops x at free) d = one_inactive v st j s there quiet (quiet_between s.role x at.role at.here) d.events stops d.are
  alone_one_at_a_time t (alone.refused_in x o text e at one open_end explicit is) d = inside_then t d x at.role (tt, tt) _ refl text _ refl
  alone_one_at_a_time _ (alone.refused_out x text e at free is) d = none_does v st j s there quiet d.events d.are
  alone_one_at_a_time t (alone.refused_checked o at named fresh e stage is) d = inside_then t d at.stands.x at.stands.role (checked_plain o.explicit at.stands.text _) _ refl at.stands.text _ refl
  alone_one_at_a_time t (alone.no_memory x text at open_end) d = inside_then t d x at.role (failed_in_plain v.meaning x.open_one text) _ refl text _ refl
  alone_one_at_a_time t (alone.no_memory_then o at named fresh stage) d = inside_then t d at.stands.x at.stands.role (tt, tt) _ refl at.stands.text _ refl
  alone_one_at_a_time t (alone.saves o at name stage explicit is few) d = inside_then t d at.stands.x at.stands.role (tt, tt) _ refl at.stands.text _ refl
  alone_one_at_a_time t (alone.has_too_many o at name stage explicit is full) d = inside_then t d at.stands.x at.stands.role (tt, tt) _ refl at.stands.text _ refl
  alone_one_at_a_time _ (alone.goes_back o at name f fs stage explicit is there_is) d = none_does v st j s there quiet d.events d.are
  alone_one_at_a_time t (alone.has_no_savepoint o at name stage explicit is never) d = inside_then t d at.stands.x at.stands.role (tt, tt) _ refl at.stands.text _ refl
  alone_one_at_a_time t (alone.is_back o at seq stage) d = inside_then t d at.stands.x at.stands.role (tt, tt) _ refl at.stands.text _ refl
  alone_one_at_a_time t (alone.answers x text r at goes) d = answers_one v st j s there quiet x at.role d.stands.ledger.database text r None d.events d.are (good t d)
  alone_one_at_a_time t (alone.answers_end x o text r def line at one is released) d = answers_end v st j s there quiet x at.role d.stands.ledger.database text r (Some line) d.events d.are (good t d)
  alone_one_at_a_time t (alone.has_left x o line at one is released) d = leaves_last v st j s there quiet x at.role d.stands.ledger.database line d.events d.are (good t d)

  -- ---- visits

  module _ {anonymous_acts : List AnonymousAct} {then_cells : List Cell} (t : SeatState) (d : StandsDone v j history anonymous_acts then_cells (slice_set seats j t)) where
    -- the seat turned inside a statement
    turned : (x : Session) → s.role ≡ session x → Each IsPlain anonymous_acts → (u : SeatState) → t ≡ u → (y : Session) → u.role ≡ session y → (text : Text) (stage : StatementProgress) → y.place ≡ inside text stage → OneAtATime (run first history) d.events
    turned x role plain u is y role_then text stage place = inside_then t d x role plain y (ap (λ (z : SeatState). z.role) is ∙ role_then) text stage place

  unended : (x : Session) (o : OpenTransaction) → x.open_one ≡ Some o → o.end ≡ unfixed → x.place ≡ leaving → (text_at x.place ≡ None) × (shown_at v.meaning x.place x.open_one ≡ [])
  unended x o one open_end place = (ap text_at place, ap (λ (p : SessionStatus). shown_at v.meaning p x.open_one) place ∙ ap (shown_at v.meaning leaving) one ∙ ap end_shown open_end)

  point : {then_cells : List Cell} (t : SeatState) {x : Session} {o : OpenTransaction} {back : Bool} {script : List Line} {place : SessionStatus} (role : s.role ≡ session x) (one : x.open_one ≡ Some o) (open_end : o.end ≡ unfixed) (n : ℕ) (y : Session) → t.role ≡ session y → y.place ≡ place → (e : Ends v x o back script place)
      → (d : StandsDone v j history (map did (end_acts e n)) then_cells (slice_set seats j t)) → OneAtATime (run first history) d.events
  point t {x} role one open_end n y then_role at (commits_nothing text a b c f) d = inside_then t d x role (tt, tt) y then_role text _ at
  point t {x} role one open_end n y then_role at (rolls_back text a b c) d = inside_then t d x role (tt, tt) y then_role text _ at
  point t {x} {o} role one open_end n y then_role at (leaves a b) d = let u = unended x o one open_end b in one_leaving v st j s there quiet x role u.0 u.1 d.events (ends n true) d.are
  point t {x} role one open_end n y then_role at (did_nothing text r a b c) d = inside_then t d x role (tt, (tt, tt)) y then_role text _ at
  point t {x} role one open_end n y then_role at (was_refused text r a b) d = inside_then t d x role (tt, tt) y then_role text _ at
  point t {x} role one open_end n y then_role at (lacks_memory text r a b) d = inside_then t d x role (tt, (tt, tt)) y then_role text _ at
  point t {x} role one open_end n y then_role at (lacks_index text def indexed a b) d = inside_then t d x role (tt, (tt, tt)) y then_role text _ at

  pub visit_one_at_a_time : (out : List (ℕ × Cell)) (how : Visit) (a b : Cell) (t : SeatState) (h : Happens v out how a s b t) {then_cells : List Cell} (d : StandsDone v j history (visit_anonymous_acts v out how a s b t h) then_cells (slice_set seats j t)) → OneAtATime (run first history) d.events
  visit_one_at_a_time out (visit.assign_id explicit) (Ledger a) (Ledger b) t h d = turned t d h.stands.x h.stands.role (tt, tt) _ h.seat _ refl h.stands.text _ refl
  visit_one_at_a_time out visit.look (Catalog a) (Catalog b) t h d = turned t d h.at.stands.x h.at.stands.role (tt, tt) _ h.seat _ refl h.at.stands.text _ refl
  visit_one_at_a_time out visit.read_system (Catalog a) (Catalog b) t h d = turned t d h.at.stands.x h.at.stands.role (tt, done_plain h.o.explicit h.at.stands.text true _) _ h.seat _ refl h.at.stands.text _ refl
  visit_one_at_a_time out visit.create_table (Catalog a) (Catalog b) t h d = turned t d h.at.stands.x h.at.stands.role (tt, tt) _ h.seat _ refl h.at.stands.text _ refl
  visit_one_at_a_time out visit.create_index (Catalog a) (Catalog b) t h d = turned t d h.at.stands.x h.at.stands.role (tt, tt) _ h.seat _ refl h.at.stands.text _ refl
  visit_one_at_a_time out visit.alter_table (Catalog a) (Catalog b) t h d = turned t d h.at.stands.x h.at.stands.role (tt, tt) _ h.seat _ refl h.at.stands.text _ refl
  visit_one_at_a_time out visit.refuse_create (Catalog a) (Catalog b) t h d = turned t d h.at.stands.x h.at.stands.role (tt, tt) _ h.seat _ refl h.at.stands.text _ refl
  visit_one_at_a_time out visit.stop_in_catalog (Catalog a) (Catalog b) t h d = turned t d h.0.at.stands.x h.0.at.stands.role (stopped_plain h.0.stopped h.0.at.stands.text (failed_in v.meaning (Some h.0.o) h.0.at.stands.text) (failed_in_plain v.meaning (Some h.0.o) h.0.at.stands.text)) _ h.0.seat _ refl h.0.at.stands.text _ refl
  visit_one_at_a_time out visit.change (Rows a) (Rows b) t h d = turned t d h.at.at.stands.x h.at.at.stands.role (done_plain h.o.explicit h.at.at.stands.text true _) _ h.seat _ refl h.at.at.stands.text _ refl
  visit_one_at_a_time out visit.refuse_change (Rows a) (Rows b) t h d = turned t d h.at.at.stands.x h.at.at.stands.role (done_plain h.o.explicit h.at.at.stands.text true _) _ h.seat _ refl h.at.at.stands.text _ refl
  visit_one_at_a_time out visit.read (Rows a) (Rows b) t h d = turned t d h.at.at.stands.x h.at.at.stands.role (done_plain h.o.explicit h.at.at.stands.text true _) _ h.seat _ refl h.at.at.stands.text _ refl
  visit_one_at_a_time out visit.stop_in_table (Rows a) (Rows b) t h d = turned t d h.0.at.at.stands.x h.0.at.at.stands.role (stopped_plain h.0.stopped h.0.at.at.stands.text (fails h.0.at.at.stands.text ∷ []) (tt, tt)) _ h.0.seat _ refl h.0.at.at.stands.text _ refl
  visit_one_at_a_time out visit.add_index (Rows a) (Rows b) t h d = none_does v st j s there quiet d.events d.are
  visit_one_at_a_time out visit.undo_to (Rows a) (Rows b) t h d = none_does v st j s there quiet d.events d.are
  visit_one_at_a_time out (visit.commit time) (Ledger a) (Ledger b) t h d = turned t d h.stands.x h.stands.role (says_plain (lines_at h.stands.x.place) (commits time (tx_count a.items + 1) ∷ []) (tt, tt)) _ h.seat _ refl h.stands.text _ refl
  visit_one_at_a_time out visit.read_point (Ledger a) (Ledger b) t h d = point t h.0.role h.0.open_one h.0.unfixed (tx_count a.items) _ (ap (λ (z : SeatState). z.role) h.0.seat) refl h.0.ends d
  visit_one_at_a_time out visit.release (Rows a) (Rows b) t h d = none_does v st j s there quiet d.events d.are
  visit_one_at_a_time out visit.release_catalog (Catalog a) (Catalog b) t h d = none_does v st j s there quiet d.events d.are
  visit_one_at_a_time out visit.give_back (Catalog a) (Catalog b) t h d = none_does v st j s there quiet d.events d.are
  visit_one_at_a_time out (visit.close k) (Ledger a) (Ledger b) t h d = closings_alone (run first history) d.events (subst (Each IsClosed) (sym d.are) (tt, tt))
  visit_one_at_a_time out (visit.issue moment) (Ledger a) (Ledger b) t h d = turned t d h.stands.x h.stands.role (closings_plain v (pending_in a) a (did (issues h.digest (tx_count a.items)) ∷ []) (tt, tt)) _ h.seat _ refl h.stands.text _ refl
  visit_one_at_a_time out visit.lack_block (Ledger a) (Ledger b) t h d = turned t d h.0.stands.x h.0.stands.role (tt, tt) _ h.0.seat _ refl h.0.stands.text _ refl
  visit_one_at_a_time out visit.keep a b t h d = turned t d h.0.stands.x h.0.stands.role (tt, tt) _ h.0.seat _ refl h.0.stands.text _ refl
  visit_one_at_a_time out visit.nothing a b t h d = none_does v st j s there quiet d.events d.are
  visit_one_at_a_time out how a b t h d = absurd h
