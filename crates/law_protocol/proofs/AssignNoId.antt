-- Which acts draw no id.
use Rattle.std.proofs.Common.{ℕ, Bool, true, false, List, [], ◌∷◌, ◌++◌, map, Option, Some, None}
use Rattle.std.specs.Prelude.{if◌then◌else◌}
use Rattle.sql_types.specs.declared.reply.Reply.{Reply}
use Rattle.spec_model.specs.Journals.{Line}
use Rattle.spec_history.specs.Lists.{Text, Each}
use Rattle.spec_history.specs.Meaning.{Meaning}
use Rattle.spec_history.specs.Transcripts.{Kind, unread, begin, commit, roll_back, to_savepoint, create, rows, issue, keep, kind_of}
use Rattle.spec_history.specs.Acts.{says, commits, fails}
use Rattle.spec_protocol.specs.Server.{Server}
use Rattle.spec_protocol.specs.ActsOf.{done_acts, checked_acts, failed_acts, failed_in, commit_acts, end_acts, alone_acts}
use Rattle.spec_protocol.specs.Alone.{Alone}
use Rattle.spec_protocol.specs.Alone as alone
use Rattle.spec_protocol.specs.LedgerVisits.{Ends, commits_nothing, rolls_back, leaves, did_nothing, was_refused, lacks_memory, lacks_index}
use Rattle.spec_protocol.specs.OpenOnes.{lines_at}
use Rattle.spec_protocol.specs.Seats.{OpenTransaction, SessionStatus, SeatState, Session}
use Rattle.law_protocol_steps.proofs.AskedMore.{NotFree}
use Rattle.law_protocol_tables.proofs.AskedStays.{AssignsNoId}

pub done_none : (b : Bool) (text : Text) (table : Bool) (r : Reply) → Each AssignsNoId (done_acts b text table r)
done_none true text table r = (tt, tt)
done_none false text table r = (tt, tt)

-- nor does it free anything
pub done_kept : (b : Bool) (text : Text) (r : Reply) → Each NotFree (done_acts b text true r)
done_kept true text r = (tt, tt)
done_kept false text r = (tt, tt)

pub checked_none : (b : Bool) (text : Text) (r : Reply) → Each AssignsNoId (checked_acts b text r)
checked_none true text r = (tt, tt)
checked_none false text r = tt

failed_none : (k : Kind) (text : Text) → Each AssignsNoId (failed_acts k text)
failed_none unread text = (tt, tt)
failed_none begin text = (tt, tt)
failed_none commit text = tt
failed_none roll_back text = tt
failed_none to_savepoint text = (tt, tt)
failed_none create text = (tt, tt)
failed_none rows text = (tt, tt)
failed_none issue text = (tt, tt)
failed_none keep text = (tt, tt)

pub failed_in_none : (q : Meaning) (o : Option OpenTransaction) (text : Text) → Each AssignsNoId (failed_in q o text)
failed_in_none q None text = tt
failed_in_none q (Some o) text = by o.explicit
  where
    by : (b : Bool) → Each AssignsNoId (if b then failed_acts (kind_of (q.reads text)) text else fails text ∷ [])
    by true = failed_none (kind_of (q.reads text)) text
    by false = (tt, tt)

commit_from : (lines : List Line) (time place : ℕ) → Each AssignsNoId (map says lines ++ commits time place ∷ [])
commit_from [] time place = (tt, tt)
commit_from (l ∷ ls) time place = (tt, commit_from ls time place)

pub commit_none : (x : Session) (time place : ℕ) → Each AssignsNoId (commit_acts x time place)
commit_none x time place = commit_from (lines_at x.place) time place

pub end_none : {v : Server} {x : Session} {o : OpenTransaction} {back : Bool} {script : List Line} {place : SessionStatus} (e : Ends v x o back script place) (n : ℕ) → Each AssignsNoId (end_acts e n)
end_none (commits_nothing text a b c d) n = (tt, tt)
end_none (rolls_back text a b c) n = (tt, tt)
end_none (leaves a b) n = (tt, tt)
end_none (did_nothing text r a b c) n = (tt, (tt, tt))
end_none (was_refused text r a b) n = (tt, tt)
end_none (lacks_memory text r a b) n = (tt, (tt, tt))
end_none (lacks_index text def indexed a b) n = (tt, (tt, tt))

pub alone_none : {v : Server} {s t : SeatState} (step : Alone v s t) → Each AssignsNoId (alone_acts step)
alone_none (alone.begins name a b) = (tt, tt)
alone_none (alone.builds a b) = tt
alone_none (alone.rests a) = tt
alone_none (alone.takes x text a b) = (tt, tt)
alone_none (alone.leaves x o a b c d) = tt
alone_none (alone.stops x a b) = (tt, tt)
alone_none (alone.refused_in x o text e a b c d f) = (tt, tt)
alone_none (alone.refused_out x text e a b c) = tt
alone_none (alone.refused_checked o at named fresh e a b) = checked_none o.explicit at.stands.text _
alone_none {v} (alone.no_memory x text a b) = failed_in_none v.meaning x.open_one text
alone_none (alone.no_memory_then o at named fresh a) = (tt, tt)
alone_none (alone.saves o at name a b c d) = (tt, tt)
alone_none (alone.has_too_many o at name a b c d) = (tt, tt)
alone_none (alone.goes_back o at name f fs a b c d) = tt
alone_none (alone.has_no_savepoint o at name a b c d) = (tt, tt)
alone_none (alone.is_back o at seq a) = (tt, tt)
alone_none (alone.answers x text r a b) = (tt, tt)
alone_none (alone.answers_end x o text r def line a b c d) = (tt, (tt, tt))
alone_none (alone.has_left x o line a b c d) = (tt, (tt, (tt, tt)))
