-- Where a session stands as its thread has it, and what the board knows of its seat.
use Rattle.std.specs.Prelude.{ℕ, ◌≡◌, ◌⊎◌, ◌++◌, true, List, [], ◌∷◌, map, take, None}
use Rattle.std.specs.Borrow.{Bor}
use Rattle.spec_history.specs.Lists.{Text, Each}
use Rattle.spec_history.specs.Transcripts.{Transcript, statements}
use Rattle.format_transcript.specs.TranscriptText.{entry_text}
use Rattle.spec_protocol.specs.Alone.{Alones}
use Rattle.spec_protocol.specs.Seats.{Role, idle, session, SeatState, Written}
use Rattle.spec_protocol.specs.Server.{Server}
use Rattle.server_session.specs.ControlPoints.{IsBetween}
use Rattle.server_session.specs.Sits.{Sits}
use Rattle.server_session.specs.declared.seat.Seat.{Seat}
use Rattle.server_session.specs.declared.stage.ControlPoint.{ControlPoint}
use Rattle.server_session.specs.declared.stage.ControlPoint.TheVariants.{Inside}
use Rattle.server_engine.specs.Standing.{AnswerMayLie}
use Rattle.server_engine.specs.Written.{texts_shown}
use Rattle.server_result.specs.Moments.{IsMoment, said_with}
use Rattle.server_thread.specs.declared.worker.Job.{Job}
use Rattle.server_thread.specs.declared.worker.Worker.{Worker}

-- ---- seats

-- a session may begin there
pub record IsIdle (s : SeatState) : Type 0 where
  pub present : s.present ≡ true
  pub role : s.role ≡ idle

-- the transcripts of the sessions of which the seat knows that they are over
abbrev pub all_known : SeatState → List Transcript
all_known s = s.earlier ++ map (λ w. w.transcript) s.written

abbrev pub known_in : Role → List Transcript → List Transcript
known_in (session x) all = x.earlier
known_in _ all = all

-- of which its session knew that when it began; or would know, if one began now
abbrev pub known_by : SeatState → List Transcript
known_by s = known_in s.role (all_known s)

-- all this is still known
pub record HasSameKnowledge (s t : SeatState) : Type 0 where
  pub known : known_by t ≡ known_by s
  pub written : t.written ≡ s.written

-- ---- the thread

abbrev pub texts_in : List (Bor Text) → List Text
texts_in statements = map (λ text. text.now) statements

-- the moments that its statements may have
abbrev pub says_in : {H C : Type 0} → (C → ℕ → Type 0) → Job H C → ℕ → Type 0
says_in says job = said_with job.moment (says job.clock.now)

-- the text of the statement under way
abbrev pub under_way : ControlPoint → Text → List Text
under_way (Inside stage) text = text ∷ []
under_way _ text = []

-- no statement was taken up yet, or the last one at such a moment
abbrev pub IsTimed : {H : Type 0} → (ℕ → Type 0) → Seat H → Type 0
IsTimed says y = (IsBetween y × (y.running ≡ None)) ⊎ IsMoment says y.started

-- ---- both

-- The session stands as its thread has it. It has shown what the thread has, of as many statements as were
-- taken up, at moments that are said; and when it began, its seat knew of these sessions that they were over,
-- and had written these.
pub record IsSeated {H C : Type 0} (digest : H → List ℕ → List ℕ) (says : C → ℕ → Type 0)
    (known : List Transcript) (wrote : List Written) (z : Worker H C) (t : SeatState) : Type 0 where
  pub sits : Sits digest z.job.hasher z.session.seat t
  pub name : z.session.seat.name ≡ z.job.name.now
  pub texts : statements sits.x.transcript.entries ++ under_way z.session.seat.point z.session.seat.text
      ≡ take z.taken (texts_in z.job.statements.now)
  pub entries : texts_shown z.session ≡ map (entry_text z.job.name.now) sits.x.transcript.entries
  pub answer : AnswerMayLie z.session.seat.point z.session.answer z.session.seat.running
  -- its last line comes with its end
  pub last : z.session.last ≡ None
  pub images : sits.x.images ≡ z.session.images
  pub moments : Each (IsMoment (says_in says z.job)) sits.x.moments
  pub timed : IsTimed (says_in says z.job) z.session.seat
  pub earlier : sits.x.earlier ≡ known
  pub written : t.written ≡ wrote

-- So it is in a state to which some steps of the seat alone lead from the one that the board knows.
pub record IsAhead {H C : Type 0} (digest : H → List ℕ → List ℕ) (says : C → ℕ → Type 0) (v : Server)
    (z : Worker H C) (s : SeatState) : Type 0 where
  pub t : SeatState
  pub steps : Alones v s t
  pub seated : IsSeated digest says (known_by s) s.written z t
