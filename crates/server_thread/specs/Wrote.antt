-- What a session wrote that is over.
use Rattle.std.specs.Prelude.{ℕ, ◌≡◌, ◌++◌, List, [], ◌∷◌, map, take}
use Rattle.spec_history.specs.Lists.{Text, Each}
use Rattle.spec_history.specs.Transcripts.{Transcript, statements}
use Rattle.format_transcript.specs.TranscriptText.{entry_text}
use Rattle.spec_protocol.specs.Alone.{Alones}
use Rattle.spec_protocol.specs.Seats.{idle, SeatState, Written}
use Rattle.spec_protocol.specs.Server.{Server}
use Rattle.server_engine.specs.Written.{texts_shown}
use Rattle.server_result.specs.Moments.{IsMoment}
use Rattle.server_thread.specs.Seated.{known_by, says_in, texts_in}
use Rattle.server_engine.specs.declared.session.SessionEnd.{SessionEnd}
use Rattle.server_thread.specs.declared.worker.Worker.{Worker}

-- this was written of the session of this name that ran these statements, and its thread has this of it
pub record IsWritten (says : ℕ → Type 0) (name : Text) (ran : List Text) (e : SessionEnd)
    (w : Written) : Type 0 where
  pub session : w.transcript.session ≡ name
  pub texts : statements w.transcript.entries ≡ ran
  pub entries : e.entries ≡ map (entry_text name) w.transcript.entries
  pub images : e.images ≡ w.images
  pub moments : Each (IsMoment says) w.moments

-- what the thread of a session has of it at the end
abbrev pub left_of : {H C : Type 0} → Worker H C → SessionEnd
left_of z = record { entries = texts_shown z.session; images = z.session.images }

-- the texts of the statements that were taken up
abbrev pub texts_taken : {H C : Type 0} → Worker H C → List Text
texts_taken z = take z.taken (texts_in z.job.statements.now)

-- The session is over, and this seat wrote its transcript behind these. When it began, its seat knew of these
-- sessions that they were over.
pub record HasWritten (says : ℕ → Type 0) (name : Text) (texts : List Text) (e : SessionEnd)
    (known : List Transcript) (written : List Written) (t : SeatState) : Type 0 where
  pub w : Written
  pub role : t.role ≡ idle
  pub wrote : t.written ≡ written ++ w ∷ []
  pub is : IsWritten says name texts e w
  pub earlier : w.earlier ≡ known

-- so it is where some steps of the seat alone lead from the state that the board knows
pub record HasLeft {H C : Type 0} (says : C → ℕ → Type 0) (v : Server) (z : Worker H C)
    (s : SeatState) : Type 0 where
  pub t : SeatState
  pub steps : Alones v s t
  pub wrote : HasWritten (says_in says z.job) z.job.name.now (texts_taken z) (left_of z) (known_by s) s.written t
