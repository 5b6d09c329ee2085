-- A session goes on, and stands as its thread has it.
use Rattle.std.proofs.Common.{◌≡◌, ◌<◌, ◌+◌, ℕ, zero, suc, List, [], ◌∷◌, ◌++◌, Option, None, length, map, take, refl, sym, ap, subst, subst₂, ◌∙◌, ⊎_elim, arith}
use Rattle.std.specs.Borrow.{Bor}
use Rattle.std.specs.Prelude.{slice_index_or}
use Rattle.spec_history.specs.Lists.{Text, Each}
use Rattle.spec_history.specs.Transcripts.{Entry, statement, end_of_session, statements, Transcript}
use Rattle.spec_history.proofs.Trace.{each_append}
use Rattle.format_transcript.specs.TranscriptText.{entry_text}
use Rattle.spec_protocol.specs.Alone.{none}
use Rattle.spec_protocol.specs.Server.{Server}
use Rattle.spec_protocol.specs.Seats.{KeptImage, Role, Session, SeatState, Written}
use Rattle.server_result.specs.Moments.{IsMoment}
use Rattle.server_session.specs.ControlPoints.{IsBetweenAt, IsLeavingAt, IsSamePhase}
use Rattle.server_session.specs.Sits.{Sits}
use Rattle.server_session.specs.SessionOutput.{Adds}
use Rattle.server_session.specs.declared.stage.ControlPoint.{ControlPoint}
use Rattle.server_session.specs.declared.stage.ControlPoint.TheVariants.{Between, Inside, Leaving, Over}
use Rattle.server_session.specs.declared.answer.LastAnswer.{LastAnswer}
use Rattle.server_engine.specs.Standing.{AnswerMayLie, IsSameSession}
use Rattle.server_engine.specs.Written.{texts_shown}
use Rattle.server_engine.specs.declared.session.Session as core
use Rattle.server_engine.proofs.AnonymousActs.{one_session}
use Rattle.server_engine.proofs.Holding.{none_lies}
use Rattle.server_thread.specs.Seated.{all_known, known_by, known_in, says_in, texts_in, under_way, IsTimed, IsSeated, IsAhead, HasSameKnowledge}
use Rattle.server_thread.specs.declared.worker.Job.{Job}
use Rattle.server_thread.specs.declared.worker.Worker.{Worker}

-- ---- lists

pub texts_more : {A B : Type 0} (f : A → B) (xs ys : List A) → map f (xs ++ ys) ≡ map f xs ++ map f ys
texts_more f [] ys = refl
texts_more {A} {B} f (x ∷ xs) ys = ap (λ (zs : List B). f x ∷ zs) (texts_more f xs ys)

pub statements_more : (es more : List Entry) → statements (es ++ more) ≡ statements es ++ statements more
statements_more [] more = refl
statements_more (statement text reply end ∷ es) more = ap (λ (ts : List Text). text ∷ ts) (statements_more es more)
statements_more (end_of_session end ∷ es) more = statements_more es more

take_next : (ts : List (Bor Text)) (n : ℕ) (d : Bor Text) → n < length ts → take (suc n) (texts_in ts) ≡ take n (texts_in ts) ++ (slice_index_or ts n d).now ∷ []
take_next [] n d l = absurd (omega (arith, l))
take_next (x ∷ ts) zero d l = refl
take_next (x ∷ ts) (suc n) d l = ap (λ (us : List Text). x.now ∷ us) (take_next ts n d (omega (arith, l)))

-- one statement more is taken up
pub take_more : (ts : List (Bor Text)) (n : ℕ) (d : Bor Text) → n < length ts → take (n + 1) (texts_in ts) ≡ take n (texts_in ts) ++ (slice_index_or ts n d).now ∷ []
take_more ts n d l = ap (λ (k : ℕ). take k (texts_in ts)) (let q : n + 1 ≡ suc n = omega arith in q) ∙ take_next ts n d l

-- ---- points

pub stays_under_way : (p q : ControlPoint) (text : Text) → IsSamePhase p q → under_way q text ≡ under_way p text
stays_under_way (Inside stage) (Inside other) text s = refl
stays_under_way (Inside stage) Between text s = absurd s
stays_under_way (Inside stage) Leaving text s = absurd s
stays_under_way (Inside stage) Over text s = absurd s
stays_under_way Leaving Leaving text s = refl
stays_under_way Leaving Between text s = absurd s
stays_under_way Leaving (Inside other) text s = absurd s
stays_under_way Leaving Over text s = absurd s
stays_under_way Between q text s = absurd s
stays_under_way Over q text s = absurd s

pub none_between : (p : ControlPoint) (text : Text) → IsBetweenAt p → under_way p text ≡ []
none_between Between text b = refl
none_between (Inside stage) text b = absurd b
none_between Leaving text b = absurd b
none_between Over text b = absurd b

pub none_leaving : (p : ControlPoint) (text : Text) → IsLeavingAt p → under_way p text ≡ []
none_leaving Leaving text l = refl
none_leaving Between text l = absurd l
none_leaving (Inside stage) text l = absurd l
none_leaving Over text l = absurd l

-- ---- the thread

module _ {H C : Type 0} (job : Job H C) where
  abbrev pub at : core.Session H → ℕ → Worker H C
  at y n = record { job = job; session = y; taken = n }

module _ {H C : Type 0} (digest : H → List ℕ → List ℕ) (says : C → ℕ → Type 0) (known : List Transcript) (written : List Written) (job : Job H C) where
  -- it went on from one state to another, and its transcript, its images and its moments gained this
  module _ (y z : core.Session H) (n m : ℕ) (s t : SeatState) (w : IsSeated digest says known written (at job y n) s) (sits : Sits digest job.hasher z.seat t)
      (entries : List Entry) (kept : List KeptImage) (times : List ℕ) (adds : Adds s entries kept times t) where
    was : adds.x ≡ w.sits.x
    was = one_session s.role adds.x w.sits.x adds.before w.sits.role

    becomes : sits.x ≡ adds.y
    becomes = one_session t.role sits.x adds.y sits.role adds.after

    entries_are : sits.x.transcript.entries ≡ w.sits.x.transcript.entries ++ entries
    entries_are = ap (λ (x : Session). x.transcript.entries) becomes ∙ adds.entries ∙ ap (λ (x : Session). x.transcript.entries ++ entries) was

    images_are : sits.x.images ≡ w.sits.x.images ++ kept
    images_are = ap (λ (x : Session). x.images) becomes ∙ adds.images ∙ ap (λ (x : Session). x.images ++ kept) was

    moments_are : sits.x.moments ≡ w.sits.x.moments ++ times
    moments_are = ap (λ (x : Session). x.moments) becomes ∙ adds.moments ∙ ap (λ (x : Session). x.moments ++ times) was

    pub seated_on : z.seat.name ≡ y.seat.name → statements (w.sits.x.transcript.entries ++ entries) ++ under_way z.seat.point z.seat.text ≡ take m (texts_in job.statements.now)
        → texts_shown z ≡ texts_shown y ++ map (entry_text job.name.now) entries → AnswerMayLie z.seat.point z.answer z.seat.running → z.last ≡ None → y.images ++ kept ≡ z.images
        → Each (IsMoment (says_in says job)) times → IsTimed (says_in says job) z.seat → IsSeated digest says known written (at job z m) t
    seated_on name texts shown lies last images at_times timed = record {
      sits = sits;
      name = name ∙ w.name;
      texts = ap (λ (es : List Entry). statements es ++ under_way z.seat.point z.seat.text) entries_are ∙ texts;
      entries = shown ∙ ap (λ (ts : List Text). ts ++ map (entry_text job.name.now) entries) w.entries
          ∙ sym (texts_more (entry_text job.name.now) w.sits.x.transcript.entries entries) ∙ ap (map (entry_text job.name.now)) (sym entries_are);
      answer = lies;
      last = last;
      images = images_are ∙ ap (λ (is : List KeptImage). is ++ kept) w.images ∙ images;
      moments = subst (Each (IsMoment (says_in says job))) (sym moments_are) (each_append (IsMoment (says_in says job)) w.sits.x.moments times w.moments at_times);
      timed = timed;
      earlier = ap (λ (x : Session). x.earlier) becomes ∙ adds.earlier ∙ ap (λ (x : Session). x.earlier) was ∙ w.earlier;
      written = adds.written ∙ w.written;
    }

  -- its last answer becomes one of its entries
  pub same_seated : (y z : core.Session H) (n : ℕ) (t : SeatState) → IsSeated digest says known written (at job y n) t → IsSameSession y z → IsSeated digest says known written (at job z n) t
  same_seated y z n t w same = subst (λ (u : core.Session H). IsSeated digest says known written (at job u n) t) moved (record {
    sits = w.sits;
    name = w.name;
    texts = w.texts;
    entries = ap texts_shown moved ∙ same.shown ∙ w.entries;
    answer = ⊎_elim
        (λ (e : z.answer ≡ y.answer). subst (λ (last : Option LastAnswer). AnswerMayLie y.seat.point last y.seat.running) (sym e) w.answer)
        (λ e. none_lies y.seat.point z.answer y.seat.running e) same.answer;
    last = same.last ∙ w.last;
    images = w.images ∙ sym same.images;
    moments = w.moments;
    timed = w.timed;
    earlier = w.earlier;
    written = w.written;
  })
    where
      moved : record { seat = y.seat; entries = z.entries; answer = z.answer; last = z.last; images = z.images } ≡ z
      moved = λ i. record { seat = sym same.seat i; entries = z.entries; answer = z.answer; last = z.last; images = z.images }

-- ---- what the board knows

module _ {H C : Type 0} (digest : H → List ℕ → List ℕ) (says : C → ℕ → Type 0) (v : Server) (z : Worker H C) (s t : SeatState) (w : IsSeated digest says (known_by s) s.written z t) where
  pub still_known : HasSameKnowledge s t
  still_known = record { known = ap (λ (r : Role). known_in r (all_known t)) w.sits.role ∙ w.earlier; written = w.written }

  -- the board knows the state itself
  pub ahead_there : IsAhead digest says v z t
  unfolding still_known
  ahead_there = record {
    t = t;
    steps = none;
    seated = subst₂ (λ (known : List Transcript) (written : List Written). IsSeated digest says known written z t) (sym still_known.known) (sym still_known.written) w;
  }

-- its last answer becomes one of its entries
pub same_ahead : {H C : Type 0} (digest : H → List ℕ → List ℕ) (says : C → ℕ → Type 0) (job : Job H C) (v : Server) (y z : core.Session H) (n : ℕ) (s : SeatState) → IsAhead digest says v (at job y n) s → IsSameSession y z → IsAhead digest says v (at job z n) s
same_ahead digest says job v y z n s ahead same = record {
  t = ahead.t;
  steps = ahead.steps;
  seated = same_seated digest says (known_by s) s.written job y z n ahead.t ahead.seated same;
}
