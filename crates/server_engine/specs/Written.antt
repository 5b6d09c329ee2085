-- What a session writes down.
use Rattle.std.specs.Prelude.{ℕ, ◌≡◌, ◌++◌, List, [], Option, Some, None, map}
use Rattle.sql_types.specs.declared.reply.Reply.{Reply}
use Rattle.spec_history.specs.EndSeen.{line_seen}
use Rattle.spec_history.specs.Lists.{Text}
use Rattle.spec_history.specs.Transcripts.{Entry}
use Rattle.format_transcript.specs.TranscriptText.{entry_text}
use Rattle.spec_protocol.specs.Seats.{KeptImage}
use Rattle.server_session.specs.KeptCell.{KeptCell}
use Rattle.server_session.specs.LastAnswers.{entries_kept}
use Rattle.server_session.specs.declared.answer.LastAnswer.{LastAnswer}
use Rattle.server_session.specs.declared.answer.LastAnswer.TheVariants.{Own, InScript}
use Rattle.server_session.specs.declared.running.Running.{Running}
use Rattle.server_session.specs.ControlPoints.{IsBetween, IsOver, KeepsStatement}
use Rattle.server_session.specs.Steps.{EndsSession, IsAnsweredBy, KeepsImage, end_of, entries_at, image_in, images_kept, items_in, last_entries}
use Rattle.server_session.specs.declared.seat.Seat.{Seat}
use Rattle.server_engine.specs.declared.session.Session.{Session}
use Rattle.server_engine.specs.declared.session.SessionEnd.{SessionEnd}

-- the text of the entry that its last line makes, where this is no entry yet
abbrev pub last_texts : {H : Type 0} → Session H → List Text
last_texts y = map (entry_text y.seat.name) (last_entries (line_seen y.last))

-- the entry of an answer that is no entry yet, beside this transaction
abbrev pub answer_entries : {H : Type 0} → Option LastAnswer → Option (Running H) → List Entry
answer_entries None r = []
answer_entries (Some last) r = entries_kept last r

-- it doesn't lie in the script of the transaction
abbrev pub IsApart : Option LastAnswer → Type 0
IsApart (Some InScript) = ⊥
IsApart _ = Unit {0}

-- the last line of a script, by itself
abbrev pub by_itself : Option (Text × Reply) → Option LastAnswer
by_itself None = None
by_itself (Some line) = Some (Own (record { text = line.0; reply = line.1; end = None }))

-- so it is kept that lay in the script whose last line this is
abbrev pub apart_from : Option LastAnswer → Option (Text × Reply) → Option LastAnswer
apart_from None said = None
apart_from (Some (Own a)) said = Some (Own a)
apart_from (Some InScript) said = by_itself said

-- where an answer lies in a script, there is one
abbrev pub HasItsScript : {H : Type 0} → Option LastAnswer → Option (Running H) → Type 0
HasItsScript (Some InScript) None = ⊥
HasItsScript _ r = Unit {0}

-- the text of that entry
abbrev pub answer_texts : {H : Type 0} → Session H → List Text
answer_texts y = map (entry_text y.seat.name) (answer_entries y.answer y.seat.running)

-- the texts of its entries, and of what is no entry yet
abbrev pub texts_shown : {H : Type 0} → Session H → List Text
texts_shown y = y.entries ++ answer_texts y ++ last_texts y

-- the statement is answered
pub record AnswersStatement {H : Type 0} (digest : H → List ℕ → List ℕ) (y z : Session H) : Type 0 where
  pub answered : IsAnsweredBy digest y.seat z.seat
  pub between : IsBetween z.seat
  pub started : z.seat.started ≡ y.seat.started
  pub name : z.seat.name ≡ y.seat.name
  pub entries : z.entries ≡ y.entries
  -- its answer is no entry yet
  pub answer : answer_texts z ≡ map (entry_text y.seat.name) (entries_at y.seat)
  pub lies : HasItsScript z.answer z.seat.running
  pub last : z.last ≡ y.last
  pub images : z.images ≡ y.images

-- the session is over, and has the line of the transaction that its end ended
pub record LeavesSession {H : Type 0} (digest : H → List ℕ → List ℕ) (y z : Session H) : Type 0 where
  pub ends : EndsSession digest y.seat
  pub over : IsOver z.seat
  pub name : z.seat.name ≡ y.seat.name
  pub entries : z.entries ≡ y.entries
  pub answer : z.answer ≡ y.answer
  pub apart : IsApart y.answer
  pub last : line_seen z.last ≡ end_of y.seat.running
  pub images : z.images ≡ y.images

-- an image was kept behind these, or there was no memory for one
pub record KeepsBehind {H : Type 0} (digest : H → List ℕ → List ℕ) (all : List KeptCell) (y z : Seat H)
    (before after : List KeptImage) : Type 0 where
  pub image : Option Text
  pub keeps : KeepsImage digest y all image z
  pub stays : KeepsStatement y z
  pub images : after ≡ before ++ images_kept (image_in (items_in all) image)

-- the session kept one, or there was no memory for it
pub record KeepsSessionImage {H : Type 0} (digest : H → List ℕ → List ℕ) (all : List KeptCell)
    (y z : Session H) : Type 0 where
  pub image : Option Text
  pub keeps : KeepsImage digest y.seat all image z.seat
  pub stays : KeepsStatement y.seat z.seat
  pub entries : z.entries ≡ y.entries
  pub answer : z.answer ≡ y.answer
  pub last : z.last ≡ y.last
  pub images : z.images ≡ y.images ++ images_kept (image_in (items_in all) image)

-- what is left of a session that has no line more
abbrev pub end_with : {H : Type 0} → Session H → SessionEnd
end_with y = record { entries = y.entries; images = y.images }
