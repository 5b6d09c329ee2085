-- The acts that a history gains with what a seat does.
use Rattle.std.specs.Prelude.{ℕ, ◌++◌, Bool, true, false, if◌then◌else◌, List, [], ◌∷◌, map, nat_le, zero, suc, Option, Some, None}
use Rattle.sql_value.specs.declared.refusal.Refusal.TheVariants.{NoSuchSavepoint, LimitExceeded}
use Rattle.sql_types.specs.declared.reply.Reply.{Reply}
use Rattle.sql_types.specs.declared.reply.Reply.TheVariants as reply
use Rattle.spec_model.specs.Journals.{Line}
use Rattle.spec_model.specs.Replies.{reply_text}
use Rattle.spec_history.specs.Lists.{Text}
use Rattle.spec_history.specs.Meaning.{Meaning}
use Rattle.spec_history.specs.Transcripts.{Kind, unread, begin, commit, roll_back, to_savepoint, create, rows, issue, keep, kind_of, statement, end_of_session}
use Rattle.spec_history.specs.Acts.{SessionAct, starts, takes, looks, says, fails, commits, ends, releases_locks, answers, stops, Act, closes}
use Rattle.spec_protocol.specs.Server.{Server}
use Rattle.spec_protocol.specs.Cells.{LedgerCell, pending_in}
use Rattle.spec_protocol.specs.Seats.{OpenTransaction, SessionStatus, Session, SeatState}
use Rattle.spec_protocol.specs.OpenOnes.{lines_at}
use Rattle.spec_protocol.specs.LedgerVisits.{Ends, commits_nothing, rolls_back, leaves, did_nothing, was_refused, lacks_memory, lacks_index, closed_by, next_block}
use Rattle.spec_protocol.specs.Alone.{Alone}
use Rattle.spec_protocol.specs.Alone as alone

-- ---- a statement

-- a statement of rows is done: in a transaction that BEGIN opened it belongs to the script; one of its own
-- has asked for its locks
abbrev pub done_acts : Bool → Text → Bool → Reply → List SessionAct
done_acts true text table r = says (text, reply_text r) ∷ []
done_acts false text table r = looks text table ∷ []

-- one that a check refuses: in a transaction of its own it is said with its end
abbrev pub checked_acts : Bool → Text → Reply → List SessionAct
checked_acts true text r = says (text, reply_text r) ∷ []
checked_acts false text r = []

-- one that memory fails: a COMMIT or ROLLBACK that does nothing belongs to no script
abbrev pub failed_acts : Kind → Text → List SessionAct
failed_acts unread text = fails text ∷ []
failed_acts begin text = fails text ∷ []
failed_acts commit text = []
failed_acts roll_back text = []
failed_acts to_savepoint text = fails text ∷ []
failed_acts create text = fails text ∷ []
failed_acts rows text = fails text ∷ []
failed_acts issue text = fails text ∷ []
failed_acts keep text = fails text ∷ []

abbrev pub failed_in : Meaning → Option OpenTransaction → Text → List SessionAct
failed_in q None text = []
failed_in q (Some o) text = if o.explicit then failed_acts (kind_of (q.reads text)) text else fails text ∷ []

-- ---- an end

-- a commit at this moment and place says the statement of a transaction of its own first
abbrev pub commit_acts : Session → ℕ → ℕ → List SessionAct
commit_acts x time place = map says (lines_at x.place) ++ commits time place ∷ []

-- an end after so many transactions
abbrev pub end_acts : {v : Server} {x : Session} {o : OpenTransaction} {back : Bool} {script : List Line}
    {place : SessionStatus}
    → Ends v x o back script place → ℕ → List SessionAct
end_acts (commits_nothing text a b c d) n = ends n false ∷ []
end_acts (rolls_back text a b c) n = ends n true ∷ []
end_acts (leaves a b) n = ends n true ∷ []
end_acts (did_nothing text r a b c) n = says (text, reply_text r) ∷ ends n false ∷ []
end_acts (was_refused text r a b) n = ends n false ∷ []
end_acts (lacks_memory text r a b) n = fails text ∷ ends n false ∷ []
end_acts (lacks_index text def indexed a b) n = fails text ∷ ends n false ∷ []

-- ---- closings

-- those that close all that is pending; the number bounds the blocks
abbrev pub closings : Server → ℕ → LedgerCell → List Act
closings v zero c = []
closings v (suc n) c = if nat_le (pending_in c) 0 then [] else
    closes (next_block c)
    ∷ closings v n
    (closed_by v.hash (next_block c) c)

-- ---- what a seat does alone

abbrev pub alone_acts : {v : Server} {s t : SeatState} → Alone v s t → List SessionAct
alone_acts (alone.begins name a b) = starts name ∷ []
alone_acts (alone.builds a b) = []
alone_acts (alone.rests a) = []
alone_acts (alone.takes x text a b) = takes text ∷ []
alone_acts (alone.leaves x o a b c d) = []
alone_acts (alone.stops x a b) = stops ∷ []
alone_acts (alone.refused_in x o text e a b c d f) = says (text, reply_text (reply.Refused e)) ∷ []
alone_acts (alone.refused_out x text e a b c) = []
alone_acts (alone.refused_checked o at named fresh e a b) =
    checked_acts o.explicit at.stands.text (reply.Refused e)
alone_acts {v} (alone.no_memory x text a b) = failed_in v.meaning x.open_one text
alone_acts (alone.no_memory_then o at named fresh a) = fails at.stands.text ∷ []
alone_acts (alone.saves o at name a b c d) = says (at.stands.text, reply_text reply.Saved) ∷ []
alone_acts (alone.has_too_many o at name a b c d) = says (at.stands.text, reply_text (reply.Refused LimitExceeded)) ∷ []
alone_acts (alone.goes_back o at name f fs a b c d) = []
alone_acts (alone.has_no_savepoint o at name a b c d) =
    says (at.stands.text, reply_text (reply.Refused NoSuchSavepoint)) ∷ []
alone_acts (alone.is_back o at seq a) = says (at.stands.text, reply_text reply.Back) ∷ []
alone_acts (alone.answers x text r a b) = answers (statement text r None) ∷ []
alone_acts (alone.answers_end x o text r def line a b c d) =
    releases_locks ∷ answers (statement text r (Some line)) ∷ []
alone_acts (alone.has_left x o line a b c d) = releases_locks ∷ answers (end_of_session line) ∷ stops ∷ []
