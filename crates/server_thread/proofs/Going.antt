-- What a thread does with its session between two visits leaves it ahead of what the board knows.
use Rattle.std.proofs.Common.{◌≡◌, ◌+◌, ℕ, List, [], ◌∷◌, ◌++◌, Option, Some, None, append-nil, map, take, refl, sym, ap, ap₂, subst, ◌∙◌, inl, inr, ⊎_elim}
use Rattle.spec_history.specs.Inputs.{InputLine}
use Rattle.spec_history.specs.Lists.{Text, Each}
use Rattle.spec_history.specs.Transcripts.{Entry, EndLine, statements}
use Rattle.spec_syntax.specs.Text.{statement_of}
use Rattle.format_transcript.specs.TranscriptText.{entry_text}
use Rattle.spec_protocol.specs.Serves.{Serves}
use Rattle.spec_protocol.specs.Alone.{none, more, new_session}
use Rattle.spec_protocol.specs.Moves as law
use Rattle.spec_protocol.specs.Seats.{OpenTransaction, Role, Session, SeatState}
use Rattle.spec_protocol.specs.Server.{Server}
use Rattle.server_result.specs.Moments.{IsMoment}
use Rattle.server_session.specs.ControlPoints.{IsAnswering, IsAnsweringAt, IsBetween, IsBetweenAt, IsLeavingAt, IsUnderWay, IsUnderWayAt, KeepsStatement}
use Rattle.server_session.specs.Needs.{need_of}
use Rattle.server_session.specs.Rest.{FinishesBy, IsFinishing, IsSeated as IsSeated_, MayEndSession}
use Rattle.server_session.specs.declared.need.NextVisit.TheVariants as need
use Rattle.server_session.specs.Sits.{Runs}
use Rattle.server_session.specs.Steps.{Answers, Begins, Starts, Steps, StepsAlone, end_of, entries_at, entries_by, line_with}
use Rattle.server_session.specs.declared.running.Running.{Running}
use Rattle.server_session.specs.declared.seat.Seat.{Seat}
use Rattle.server_session.specs.declared.stage.ControlPoint.{ControlPoint}
use Rattle.server_session.specs.declared.stage.ControlPoint.TheVariants.{Between, Inside, Leaving, Over}
use Rattle.server_session.specs.declared.stage.Stage.TheVariants.{Begun, AssigningId, Committing, RollingBack, Issuing, Keeping, Looking, Found as FoundIt, Made, LacksIndex, GoingBack, Replied, GivingBack, Answering as Answered_}
use Rattle.server_session.specs.declared.answer.LastAnswer.{LastAnswer}
use Rattle.server_engine.specs.Standing.{AnswerMayLie}
use Rattle.server_engine.specs.Written.{AnswersStatement, IsApart, texts_shown}
use Rattle.server_engine.specs.declared.session.Session as core
use Rattle.server_engine.proofs.AnonymousActs.{one_session}
use Rattle.server_thread.specs.Seated.{known_by, known_in, all_known, says_in, texts_in, under_way, IsAhead, IsIdle, IsSeated, IsTimed}
use Rattle.server_thread.specs.declared.worker.Job.{Job}
use Rattle.server_engine.proofs.Holding.{answered_shown, apart_at_end, apart_has, apart_lies, between_lies, none_lies, same_shown, seated, shown_entries}
use Rattle.server_thread.proofs.Moments.{all_not_done, needs_timed}
use Rattle.server_thread.proofs.Seating.{at, none_between, none_leaving, seated_on, statements_more, stays_under_way}
use Rattle.server_thread.proofs.StepsAhead.{steps_both}

-- ---- points

one_under_way : (p : ControlPoint) (text : Text) → IsUnderWayAt p → under_way p text ≡ text ∷ []
one_under_way (Inside stage) text u = refl
one_under_way Between text u = absurd u
one_under_way Leaving text u = absurd u
one_under_way Over text u = absurd u

not_between : (p : ControlPoint) → IsAnsweringAt p → IsBetweenAt p → ⊥
not_between Between a b = a
not_between (Inside stage) a b = b
not_between Leaving a b = a
not_between Over a b = a

-- the entry with an answer has the statement's text
answered_text : (p : ControlPoint) (text : Text) (end : Option EndLine) → IsAnsweringAt p → statements (entries_by p text end) ≡ under_way p text
answered_text (Inside (Answered_ a)) text end i = refl
answered_text (Inside Begun) text end i = absurd i
answered_text (Inside (AssigningId explicit)) text end i = absurd i
answered_text (Inside Committing) text end i = absurd i
answered_text (Inside RollingBack) text end i = absurd i
answered_text (Inside Issuing) text end i = absurd i
answered_text (Inside Keeping) text end i = absurd i
answered_text (Inside Looking) text end i = absurd i
answered_text (Inside (FoundIt def part fresh)) text end i = absurd i
answered_text (Inside (Made def indexed)) text end i = absurd i
answered_text (Inside (LacksIndex def)) text end i = absurd i
answered_text (Inside (GoingBack seq passed)) text end i = absurd i
answered_text (Inside (Replied r)) text end i = absurd i
answered_text (Inside (GivingBack e)) text end i = absurd i
answered_text Between text end i = absurd i
answered_text Leaving text end i = absurd i
answered_text Over text end i = absurd i

finished_none : {H : Type 0} (r : Option (Running H)) (y z : Seat H) → FinishesBy r y z → under_way z.point z.text ≡ []
finished_none None y z f = none_between z.point z.text f.0
finished_none (Some r) y z f = none_leaving z.point z.text f

finished_lies : {H : Type 0} (r : Option (Running H)) (y z : Seat H) → FinishesBy r y z → (last : Option LastAnswer) → IsApart last → AnswerMayLie z.point last z.running
finished_lies None y z f last apart = between_lies z.point last z.running f.0 (apart_has last z.running apart)
finished_lies (Some r) y z f last apart = by z.point f
  where
    by : (p : ControlPoint) → IsLeavingAt p → AnswerMayLie p last z.running
    by Between l = absurd l
    by (Inside stage) l = absurd l
    by Leaving l = apart
    by Over l = absurd l

some_not_none : {H : Type 0} (r : Running H) → Some r ≡ None → ⊥
some_not_none r e = cc

finished_timed : {H : Type 0} (says : ℕ → Type 0) (r : Option (Running H)) (y z : Seat H) → y.running ≡ r → FinishesBy r y z → z.started ≡ y.started → IsTimed says y → IsTimed says z
finished_timed says None y z e f same timed = inl f
finished_timed says (Some r) y z e f same timed = inr (subst (IsMoment says) (sym same) (⊎_elim
    (λ (b : IsBetween y × (y.running ≡ None)). absurd (some_not_none r (sym e ∙ b.1))) (λ m. m) timed))

-- ---- a session begins

none_runs : {H : Type 0} (digest : H → List ℕ → List ℕ) (h : H) (r : Option (Running H)) (o : Option OpenTransaction) → Runs digest h r o → o ≡ None → r ≡ None
none_runs digest h None o runs e = refl
none_runs digest h (Some r) None runs e = absurd runs
none_runs digest h (Some r) (Some o) runs e = absurd (let f : Some o ≡ None = e in cc)

module _ {H C : Type 0} (digest : H → List ℕ → List ℕ) (says : C → ℕ → Type 0) (job : Job H C) (v : Server) (y : core.Session H) (s : SeatState) where
  pub begins_ahead : (name : Text) → Begins digest job.hasher v name s y.seat → IsIdle s → IsBetween y.seat → y.seat.name ≡ name → name ≡ job.name.now → y.entries ≡ [] → y.answer ≡ None → y.last ≡ None → y.images ≡ [] → IsAhead digest says v (at job y 0) s
  begins_ahead name b idle_there between named same entries unanswered last images = record {
    t = law.sits s (new_session name s);
    steps = more none b.step;
    seated = record {
      sits = b.sits;
      name = named ∙ same;
      texts = ap₂ (λ (x : Session) (ts : List Text). statements x.transcript.entries ++ ts) is_new (none_between y.seat.point y.seat.text between);
      entries = shown_entries y unanswered last ∙ entries ∙ ap (λ (x : Session). map (entry_text job.name.now) x.transcript.entries) (sym is_new);
      answer = none_lies y.seat.point y.answer y.seat.running unanswered;
      last = last;
      images = ap (λ (x : Session). x.images) is_new ∙ sym images;
      moments = subst (λ (x : Session). Each (IsMoment (says_in says job)) x.moments) (sym is_new) tt;
      timed = inl (between, none_runs digest job.hasher y.seat.running b.sits.x.open_one b.sits.runs (ap (λ (x : Session). x.open_one) is_new));
      earlier = ap (λ (x : Session). x.earlier) is_new ∙ ap (λ (r : Role). known_in r (all_known s)) (sym idle_there.role);
      written = refl;
    };
  }
    where
      is_new : b.sits.x ≡ new_session name s
      is_new = one_session (law.sits s (new_session name s)).role b.sits.x (new_session name s) b.sits.role refl

-- ---- it goes on

module _ {H C : Type 0} (digest : H → List ℕ → List ℕ) (says : C → ℕ → Type 0) (job : Job H C) (v : Server) (serves : Serves (digest job.hasher) statement_of v) (y : core.Session H) (n : ℕ) (s : SeatState)
    (ahead : IsAhead digest says v (at job y n) s) where
  abbrev now : IsSeated digest says (known_by s) s.written (at job y n) ahead.t
  now = ahead.seated

  abbrev so_far : List Entry
  so_far = now.sits.x.transcript.entries

  -- between statements nothing is under way
  pub all_answered : under_way y.seat.point y.seat.text ≡ [] → statements so_far ≡ take n (texts_in job.statements.now)
  all_answered e = sym (append-nil (statements so_far)) ∙ ap (λ (ts : List Text). statements so_far ++ ts) (sym e) ∙ now.texts

  goes_alone : (z : core.Session H) (m : ℕ) (lines : List InputLine) → Steps digest job.hasher v ahead.t lines z.seat → z.seat.name ≡ y.seat.name → statements so_far ++ under_way z.seat.point z.seat.text ≡ take m (texts_in job.statements.now)
      → texts_shown z ≡ texts_shown y → AnswerMayLie z.seat.point z.answer z.seat.running → z.last ≡ y.last → z.images ≡ y.images → IsTimed (says_in says job) z.seat → IsAhead digest says v (at job z m) s
  goes_alone z m lines st name texts shown lies last images timed = record {
    t = st.t;
    steps = steps_both v s ahead.t st.t ahead.steps st.steps;
    seated = seated_on digest says (known_by s) s.written job y z n m ahead.t st.t now st.sits [] [] [] st.adds name
        (ap (λ (es : List Entry). statements es ++ under_way z.seat.point z.seat.text) (append-nil so_far) ∙ texts) (shown ∙ sym (append-nil (texts_shown y))) lies (last ∙ now.last) (append-nil y.images ∙ sym images) tt timed;
  }

  pub starts_ahead : IsBetween y.seat → y.answer ≡ None → (text : Text) (at_time : ℕ) (z : Seat H) → Starts digest y.seat text z → IsUnderWay z → z.started ≡ at_time → z.name ≡ y.seat.name → z.text ≡ text
      → IsMoment (says_in says job) at_time → take (n + 1) (texts_in job.statements.now) ≡ take n (texts_in job.statements.now) ++ text ∷ [] → IsAhead digest says v (at job (seated y z) (n + 1)) s
  starts_ahead between written text at_time z starts under started name text_is moment one_more = goes_alone (seated y z) (n + 1) (line_with y.seat.name text) (starts v job.hasher ahead.t serves now.sits) name
      (ap₂ (λ (ts us : List Text). ts ++ us) (all_answered (none_between y.seat.point y.seat.text between)) (one_under_way z.point z.text under ∙ ap (λ (t : Text). t ∷ []) text_is) ∙ sym one_more)
      (same_shown y (seated y z) (subst IsApart (sym written) tt) name refl refl refl) (none_lies z.point y.answer z.running written) refl refl
      (inr (subst (IsMoment (says_in says job)) (sym started) moment))

  pub finishes_ahead : IsBetween y.seat → (z : core.Session H) → StepsAlone digest y.seat [] z.seat → IsFinishing y.seat z.seat → z.seat.started ≡ y.seat.started → z.seat.name ≡ y.seat.name
      → texts_shown z ≡ texts_shown y → IsApart z.answer → z.last ≡ y.last → z.images ≡ y.images → IsAhead digest says v (at job z n) s
  finishes_ahead between z steps finishes started name shown apart last images = goes_alone z n [] (steps v job.hasher ahead.t serves now.sits) name
      (ap (λ (ts : List Text). statements so_far ++ ts) (finished_none y.seat.running y.seat z.seat finishes) ∙ append-nil (statements so_far) ∙ all_answered (none_between y.seat.point y.seat.text between))
      shown (finished_lies y.seat.running y.seat z.seat finishes z.answer apart) last images
      (finished_timed (says_in says job) y.seat.running y.seat z.seat refl finishes started now.timed)

  answered_time : IsAnswering y.seat → IsMoment (says_in says job) y.seat.started
  answered_time a = ⊎_elim (λ (b : IsBetween y.seat × (y.seat.running ≡ None)). absurd (not_between y.seat.point a b.0)) (λ m. m) now.timed

  pub answers_ahead : IsAnswering y.seat → y.answer ≡ None → (z : core.Session H) → AnswersStatement digest y z → IsAhead digest says v (at job z n) s
  answers_ahead a written z w = record {
    t = an.t;
    steps = more ahead.steps an.step;
    seated = seated_on digest says (known_by s) s.written job y z n n ahead.t an.t now an.sits (entries_at y.seat) [] [] an.adds w.name texts
        (answered_shown y z written now.last w ∙ ap (λ (name : Text). texts_shown y ++ map (entry_text name) (entries_at y.seat)) now.name)
        (between_lies z.seat.point z.answer z.seat.running w.between w.lies) (w.last ∙ now.last) (append-nil y.images ∙ sym w.images) tt
        (inr (subst (IsMoment (says_in says job)) (sym w.started) (answered_time a)));
  }
    where
      an : Answers digest job.hasher v ahead.t y.seat z.seat
      an = w.answered v job.hasher ahead.t serves now.sits

      texts : statements (so_far ++ entries_at y.seat) ++ under_way z.seat.point z.seat.text ≡ take n (texts_in job.statements.now)
      texts = ap (λ (ts : List Text). statements (so_far ++ entries_at y.seat) ++ ts) (none_between z.seat.point z.seat.text w.between)
          ∙ append-nil (statements (so_far ++ entries_at y.seat)) ∙ statements_more so_far (entries_at y.seat)
          ∙ ap (λ (ts : List Text). statements so_far ++ ts) (answered_text y.seat.point y.seat.text (end_of y.seat.running) a) ∙ now.texts

  -- there is no memory for its image
  pub lacks_ahead : need_of y.seat ≡ need.All → (z : Seat H) → StepsAlone digest y.seat [] z → KeepsStatement y.seat z → IsAhead digest says v (at job (seated y z) n) s
  lacks_ahead needs z steps stays = let lies = apart_lies y.seat.point z.point y.answer y.seat.running z.running stays.point now.answer in
      goes_alone (seated y z) n [] (steps v job.hasher ahead.t serves now.sits) stays.name
      (ap (λ (ts : List Text). statements so_far ++ ts) (stays_under_way y.seat.point z.point z.text stays.point ∙ ap (under_way y.seat.point) stays.text) ∙ now.texts)
      (same_shown y (seated y z) lies.0 stays.name refl refl refl) lies.1 refl refl
      (inr (subst (IsMoment (says_in says job)) (sym stays.started) (needs_timed (says_in says job) y.seat need.All needs all_not_done now.timed)))

  -- some session stands so
  pub seated_somewhere : IsSeated_ digest y.seat
  seated_somewhere = record { h = job.hasher; s = ahead.t; sits = now.sits }

  -- of one that may be over no answer lies in a script
  pub apart_at : MayEndSession y.seat → IsApart y.answer
  apart_at ends = apart_at_end y.seat.point y.answer y.seat.running ends now.answer
