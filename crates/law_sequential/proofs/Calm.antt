-- What steps don't do: which of their deeds concern no closing.
use Rattle.std.proofs.Common.{ℕ, Bool, true, false, List, [], ◌∷◌, ◌++◌, map, Option, Some, None, refl}
use Rattle.std.specs.Prelude.{if◌then◌else◌}
use Rattle.sql_types.specs.declared.lock.Hold.{Hold}
use Rattle.sql_types.specs.declared.lock.LockRequest.{LockRequest}
use Rattle.sql_types.specs.declared.reply.Reply.{Reply}
use Rattle.spec_model.specs.Journals.{Line}
use Rattle.spec_history.specs.Acts.{SessionAct, starts, takes, fails, commits, issues, answers, stops}
use Rattle.spec_history.specs.Histories.{Due, pending, full_or, WaitsForNone}
use Rattle.spec_history.specs.Lists.{Text, Each}
use Rattle.spec_history.specs.Meaning.{Meaning}
use Rattle.spec_history.specs.Transcripts.{Kind, unread, begin, commit, roll_back, to_savepoint, create, rows, issue, keep, kind_of}
use Rattle.spec_protocol.specs.ActsOf.{done_acts, checked_acts, end_acts, failed_acts, failed_in, alone_acts}
use Rattle.spec_protocol.specs.Alone.{Alone, Alones, none, more}
use Rattle.spec_protocol.specs.Alone as alone
use Rattle.spec_protocol.specs.AnonymousActs.{AnonymousAct, did, closed, stopped_acts, alones_acts}
use Rattle.spec_protocol.specs.Doing.{Stopped, blocked, no_memory}
use Rattle.spec_protocol.specs.LedgerVisits.{Ends, commits_nothing, rolls_back, leaves, did_nothing, was_refused, lacks_memory, lacks_index}
use Rattle.spec_protocol.specs.Seats.{OpenTransaction, SessionStatus, Session, SeatState}
use Rattle.spec_protocol.specs.Server.{Server}
use Rattle.law_sequential.specs.InStep.{InStep}

-- nothing that a closing waits for, or that waits for one
abbrev pub Still : AnonymousAct → Type 0
Still (closed k) = ⊥
Still (did a) = WaitsForNone a

-- nor does a session begin, take up a statement, answer one or end
abbrev pub Calm : AnonymousAct → Type 0
Calm (closed k) = ⊥
Calm (did (starts name)) = ⊥
Calm (did (takes text)) = ⊥
Calm (did (answers entry)) = ⊥
Calm (did stops) = ⊥
Calm (did a) = WaitsForNone a

calm_act : (a : SessionAct) → Calm (did a) → Still (did a)
calm_act (starts name) h = absurd h
calm_act (takes text) h = absurd h
calm_act (answers entry) h = absurd h
calm_act stops h = absurd h
calm_act a h = h

pub calm_still : (d : AnonymousAct) → Calm d → Still d
calm_still (closed k) h = absurd h
calm_still (did a) h = calm_act a h

-- ---- deeds of visits

pub done_calm : (b : Bool) (text : Text) (table : Bool) (r : Reply) → Each Calm (map did (done_acts b text table r))
done_calm true text table r = (tt, tt)
done_calm false text table r = (tt, tt)

checked_calm : (b : Bool) (text : Text) (r : Reply) → Each Still (map did (checked_acts b text r))
checked_calm true text r = (tt, tt)
checked_calm false text r = tt

failed_calm : (kind : Kind) (text : Text) → Each Calm (map did (failed_acts kind text))
failed_calm unread text = (tt, tt)
failed_calm begin text = (tt, tt)
failed_calm commit text = tt
failed_calm roll_back text = tt
failed_calm to_savepoint text = (tt, tt)
failed_calm create text = (tt, tt)
failed_calm rows text = (tt, tt)
failed_calm issue text = (tt, tt)
failed_calm keep text = (tt, tt)

pub failed_in_calm : (q : Meaning) (o : Option OpenTransaction) (text : Text) → Each Calm (map did (failed_in q o text))
failed_in_calm q None text = tt
failed_in_calm q (Some o) text = by o.explicit
  where
    by : (b : Bool) → Each Calm (map did (if b then failed_acts (kind_of (q.reads text)) text else fails text ∷ []))
    by true = failed_calm (kind_of (q.reads text)) text
    by false = (tt, tt)

pub stopped_calm : {holds : List Hold} {id : ℕ} {requests : List LockRequest} {r : Reply} (why : Stopped holds id requests r) (text : Text) (fail : List SessionAct) → Each Calm (map did fail) → Each Calm (map did (stopped_acts why text fail))
stopped_calm (blocked c e) text fail h = (tt, tt)
stopped_calm no_memory text fail h = h

pub end_calm : {v : Server} {x : Session} {o : OpenTransaction} {back : Bool} {script : List Line} {place : SessionStatus} (e : Ends v x o back script place) (n : ℕ) → Each Calm (map did (end_acts e n))
end_calm (commits_nothing text a b c d) n = (tt, tt)
end_calm (rolls_back text a b c) n = (tt, tt)
end_calm (leaves a b) n = (tt, tt)
end_calm (did_nothing text r a b c) n = (tt, (tt, tt))
end_calm (was_refused text r a b) n = (tt, tt)
end_calm (lacks_memory text r a b) n = (tt, (tt, tt))
end_calm (lacks_index text def indexed a b) n = (tt, (tt, tt))

-- ---- what a seat does alone

each_still : (ds : List AnonymousAct) → Each Calm ds → Each Still ds
each_still [] h = tt
each_still (d ∷ ds) h = (calm_still d h.0, each_still ds h.1)

pub alone_still : {v : Server} {s t : SeatState} (how : Alone v s t) → Each Still (map did (alone_acts how))
alone_still (alone.begins name a b) = (tt, tt)
alone_still (alone.builds a b) = tt
alone_still (alone.rests a) = tt
alone_still (alone.takes x text a b) = (tt, tt)
alone_still (alone.leaves x o a b c d) = tt
alone_still (alone.stops x a b) = (tt, tt)
alone_still (alone.refused_in x o text e a b c d f) = (tt, tt)
alone_still (alone.refused_out x text e a b c) = tt
alone_still (alone.refused_checked o at named fresh e a b) = checked_calm o.explicit at.stands.text _
alone_still {v} (alone.no_memory x text a b) = each_still _ (failed_in_calm v.meaning x.open_one text)
alone_still (alone.no_memory_then o at named fresh a) = (tt, tt)
alone_still (alone.saves o at name a b c d) = (tt, tt)
alone_still (alone.has_too_many o at name a b c d) = (tt, tt)
alone_still (alone.goes_back o at name f fs a b c d) = tt
alone_still (alone.has_no_savepoint o at name a b c d) = (tt, tt)
alone_still (alone.is_back o at seq a) = (tt, tt)
alone_still (alone.answers x text r a b) = (tt, tt)
alone_still (alone.answers_end x o text r def line a b c d) = (tt, (tt, tt))
alone_still (alone.has_left x o line a b c d) = (tt, (tt, (tt, tt)))

still_append : (xs ys : List SessionAct) → Each Still (map did xs) → Each Still (map did ys) → Each Still (map did (xs ++ ys))
still_append [] ys h k = k
still_append (x ∷ xs) ys h k = (h.0, still_append xs ys h.1 k)

pub alones_still : {v : Server} {s t : SeatState} (how : Alones v s t) → Each Still (map did (alones_acts how))
alones_still none = tt
alones_still (more steps last) = still_append (alones_acts steps) (alone_acts last) (alones_still steps) (alone_still last)

-- ---- such deeds leave what the next closing depends on

module _ (N : ℕ) where
  one_still : (p : ℕ) (a : SessionAct) (ds : List AnonymousAct) (then_due : Due) → WaitsForNone a → InStep N (pending p) ds then_due → InStep N (pending p) (did a ∷ ds) then_due
  one_still p (commits time place) ds x w h = absurd w
  one_still p (issues g mark) ds x w h = absurd w
  one_still p a ds x w h = h

  pub still_in_step : (b : Bool) (p : ℕ) (ds : List AnonymousAct) → Each Still ds → InStep N (full_or b p) ds (full_or b p)
  still_in_step true p [] h = refl
  still_in_step false p [] h = refl
  still_in_step b p (closed k ∷ ds) h = absurd h.0
  still_in_step true p (did a ∷ ds) h = (h.0, still_in_step true p ds h.1)
  still_in_step false p (did a ∷ ds) h = one_still p a ds (pending p) h.0 (still_in_step false p ds h.1)
