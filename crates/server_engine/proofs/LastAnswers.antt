-- The answer of a session's last statement, wherever it lies.
use Rattle.std.proofs.Common.{◌≡◌, List, [], ◌∷◌, ◌++◌, Option, Some, None, OnErr, OnOk, Result, Ok, Err, append-nil, map, refl, sym, subst, ap, ap₂, ◌∙◌, inr}
use Rattle.sql_types.specs.declared.end_line.EndLine.{EndLine}
use Rattle.sql_types.specs.declared.reply.Reply.{Reply}
use Rattle.spec_history.specs.Lists.{Text}
use Rattle.spec_history.specs.EndSeen.{line_seen}
use Rattle.spec_history.specs.Transcripts.{Entry}
use Rattle.spec_history.specs.Transcripts as transcripts
use Rattle.format_transcript.specs.TranscriptText.{entry_text}
use Rattle.server_session.specs.ControlPoints.{IsAnswering, IsAnsweringAt}
use Rattle.server_session.specs.LastAnswers.{entries_kept, entries_said, last_said}
use Rattle.server_session.specs.Steps.{end_of, entries_at, entries_by, last_entries}
use Rattle.server_session.specs.declared.answer.LastAnswer.{LastAnswer}
use Rattle.server_session.specs.declared.answer.LastAnswer.TheVariants.{Own, InScript}
use Rattle.server_session.specs.declared.running.Running.{Running}
use Rattle.server_session.specs.declared.seat.Seat.{Seat}
use Rattle.server_session.specs.declared.stage.ControlPoint.{ControlPoint}
use Rattle.server_session.specs.declared.stage.ControlPoint.TheVariants.{Between, Inside, Leaving, Over}
use Rattle.server_session.specs.declared.stage.Stage.TheVariants.{Begun, AssigningId, Committing, RollingBack, Issuing, Keeping, Looking, Found, Made, LacksIndex, GoingBack, Replied, GivingBack, Answering as Answers}
use Rattle.server_engine.specs.Standing.{IsSameSession}
use Rattle.server_engine.specs.Written.{HasItsScript, IsApart, answer_entries, answer_texts, apart_from, by_itself, last_texts, texts_shown}
use Rattle.server_engine.specs.declared.session.Session.{Session}

module _ {H : Type 0} where
  -- the last line of a script is the same entry by itself
  own_entries : (said : Option (Text × Reply)) (q : Option (Running H)) → answer_entries (by_itself said) q ≡ entries_said said
  own_entries None q = refl
  own_entries (Some line) q = refl

  pub same_apart : (last : Option LastAnswer) (said : Option (Text × Reply)) (r q : Option (Running H)) → entries_said said ≡ last_said r → answer_entries (apart_from last said) q ≡ answer_entries last r
  same_apart None said r q e = refl
  same_apart (Some (Own a)) said r q e = refl
  same_apart (Some InScript) said r q e = own_entries said q ∙ e

by_itself_apart : (said : Option (Text × Reply)) → IsApart (by_itself said)
by_itself_apart None = tt
by_itself_apart (Some line) = tt

pub is_apart : (last : Option LastAnswer) (said : Option (Text × Reply)) → IsApart (apart_from last said)
is_apart None said = tt
is_apart (Some (Own a)) said = tt
is_apart (Some InScript) said = by_itself_apart said

-- ---- an answer that was given just now

one_entry : (p : ControlPoint) (text : Text) (end : Option transcripts.EndLine) → IsAnsweringAt p → entries_by p text end ≡ [] → ⊥
one_entry Between text end i e = i
one_entry (Inside Begun) text end i e = i
one_entry (Inside (AssigningId explicit)) text end i e = i
one_entry (Inside Committing) text end i e = i
one_entry (Inside RollingBack) text end i e = i
one_entry (Inside Issuing) text end i e = i
one_entry (Inside Keeping) text end i e = i
one_entry (Inside Looking) text end i e = i
one_entry (Inside (Found def part fresh)) text end i e = i
one_entry (Inside (Made def indexed)) text end i e = i
one_entry (Inside (LacksIndex def)) text end i e = i
one_entry (Inside (GoingBack seq passed)) text end i e = i
one_entry (Inside (Replied r)) text end i e = i
one_entry (Inside (GivingBack r)) text end i e = i
one_entry (Inside (Answers a)) text end i e = cc
one_entry Leaving text end i e = i
one_entry Over text end i e = i

-- lies in a script only where there is one
pub answer_has : {H : Type 0} (y : Seat H) (last : LastAnswer) (q : Option (Running H)) → IsAnswering y → entries_kept last q ≡ entries_at y → HasItsScript (Some last) q
answer_has y (Own a) q i e = tt
answer_has y InScript (Some r) i e = tt
answer_has y InScript None i e = one_entry y.point y.text (end_of y.running) i (sym e)

-- ---- an answer that is written down

module _ {H : Type 0} (y : Session H) where
  written : (es : List Entry) → answer_entries y.answer y.seat.running ≡ es → y.entries ++ map (entry_text y.seat.name) es ≡ y.entries ++ answer_texts y
  written es e = ap (λ (l : List Entry). y.entries ++ map (entry_text y.seat.name) l) (sym e)

  pub written_one : (last : LastAnswer) (e : Entry) (text : Text) → y.answer ≡ Some last → entries_kept last y.seat.running ≡ e ∷ [] → text ≡ entry_text y.seat.name e → y.entries ++ text ∷ [] ≡ y.entries ++ answer_texts y
  written_one last e text is kept same = ap (λ (t : Text). y.entries ++ t ∷ []) same ∙ written (e ∷ []) (ap (λ (l : Option LastAnswer). answer_entries l y.seat.running) is ∙ kept)

  pub written_none : (last : LastAnswer) → y.answer ≡ Some last → entries_kept last y.seat.running ≡ [] → y.entries ≡ y.entries ++ answer_texts y
  written_none last is kept = sym (append-nil y.entries) ∙ written [] (ap (λ (l : Option LastAnswer). answer_entries l y.seat.running) is ∙ kept)

  pub none_waits : y.answer ≡ None → y.entries ≡ y.entries ++ answer_texts y
  none_waits is = sym (append-nil y.entries) ∙ written [] (ap (λ (l : Option LastAnswer). answer_entries l y.seat.running) is)

  -- so it has shown the same
  pub same_written : (z : Session H) → z.seat ≡ y.seat → z.entries ≡ y.entries ++ answer_texts y → z.answer ≡ None → z.last ≡ y.last → z.images ≡ y.images → IsSameSession y z
  same_written z seat entries unanswered last images = record {
    seat = seat;
    shown = ap₂ (λ (texts more : List Text). texts ++ more)
        (ap (λ (l : Option LastAnswer). z.entries ++ map (entry_text z.seat.name) (answer_entries l z.seat.running)) unanswered ∙ append-nil z.entries ∙ entries)
        (ap₂ (λ (u : Seat H) (end : Option EndLine). map (entry_text u.name) (last_entries (line_seen end))) seat last);
    answer = inr unanswered;
    last = last;
    images = images;
  }

  -- and its last line behind it
  pub last_written : {T E : Type 0} (m z : Session H) (r : Result T E) → IsSameSession y m → m.entries ≡ y.entries ++ answer_texts y → OnOk r (z.entries ≡ m.entries ++ last_texts m) → OnOk r (z.entries ≡ texts_shown y)
  last_written m z (Ok x) same entries ended = ended ∙ ap₂ (λ (texts more : List Text). texts ++ more) entries
      (ap₂ (λ (n : Text) (end : Option EndLine). map (entry_text n) (last_entries (line_seen end))) (ap (λ (u : Seat H). u.name) same.seat) same.last)
  last_written m z (Err e) same entries ended = tt

  -- for want of memory it has shown the same
  pub same_behind : {T E : Type 0} (m z : Session H) (r : Result T E) → IsSameSession y m → OnErr r (z ≡ m) → OnErr r (IsSameSession y z)
  same_behind m z (Ok x) same e = tt
  same_behind m z (Err x) same e = subst (λ (s : Session H). IsSameSession y s) (sym e) same
