-- A session is over, and its transcript is written behind those that its seat has.
use Rattle.std.proofs.Common.{◌≡◌, ℕ, List, [], ◌∷◌, ◌++◌, Option, Some, None, append-nil, length, map, take, refl, sym, ap, ap₂, subst, subst₂, ◌∙◌}
use Rattle.std.specs.Borrow.{Bor}
use Rattle.spec_history.specs.Lists.{Text, Each}
use Rattle.spec_history.specs.Transcripts.{Entry, EndLine, statements}
use Rattle.spec_syntax.specs.Text.{statement_of}
use Rattle.format_transcript.specs.TranscriptText.{entry_text}
use Rattle.spec_protocol.specs.Serves.{Serves}
use Rattle.spec_protocol.specs.Alone.{more}
use Rattle.spec_protocol.specs.Seats.{Session, SeatState, Written}
use Rattle.spec_protocol.specs.Server.{Server}
use Rattle.server_result.specs.Moments.{IsMoment}
use Rattle.server_session.specs.Rest.{MayEndSession, MayEndSessionAt}
use Rattle.server_session.specs.Steps.{Ends, end_of, last_entries}
use Rattle.server_session.specs.declared.running.Running.{Running}
use Rattle.server_session.specs.declared.stage.ControlPoint.{ControlPoint}
use Rattle.server_session.specs.declared.stage.ControlPoint.TheVariants.{Between, Inside, Leaving, Over}
use Rattle.server_engine.specs.Written.{LeavesSession, texts_shown}
use Rattle.server_engine.specs.declared.session.Session as core
use Rattle.server_engine.proofs.AnonymousActs.{one_session}
use Rattle.server_thread.specs.Seated.{known_by, says_in, texts_in, under_way, HasSameKnowledge, IsAhead, IsSeated}
use Rattle.server_thread.specs.Wrote.{HasLeft, HasWritten, IsWritten, left_of, texts_taken}
use Rattle.server_thread.specs.declared.worker.Job.{Job}
use Rattle.server_thread.specs.declared.worker.Worker.{Worker}
use Rattle.server_engine.specs.declared.session.SessionEnd.{SessionEnd}
use Rattle.server_engine.proofs.Holding.{left_shown}
use Rattle.server_thread.proofs.Going.{all_answered}
use Rattle.server_thread.proofs.Seating.{at, statements_more, texts_more}

none_at_end : {H : Type 0} (p : ControlPoint) (r : Option (Running H)) (text : Text) → MayEndSessionAt p r → under_way p text ≡ []
none_at_end Between r text m = refl
none_at_end (Inside stage) r text m = absurd m
none_at_end Leaving r text m = refl
none_at_end Over r text m = refl

-- the line of the session's end is no statement
no_statement : (end : Option EndLine) → statements (last_entries end) ≡ []
no_statement None = refl
no_statement (Some line) = refl

taken_all : (ts : List (Bor Text)) (n : ℕ) → n ≡ length ts → take n (texts_in ts) ≡ texts_in ts
taken_all ts n e = ap (λ (k : ℕ). take k (texts_in ts)) e ∙ whole ts
  where
    whole : (us : List (Bor Text)) → take (length us) (texts_in us) ≡ texts_in us
    whole [] = refl
    whole (u ∷ us) = ap (λ (rest : List Text). u.now ∷ rest) (whole us)

-- as many statements were taken up as the job has
pub all_taken : {H C : Type 0} (z : Worker H C) (j : Job H C) → z.job ≡ j → z.taken ≡ length j.statements.now → texts_taken z ≡ texts_in j.statements.now
all_taken {H} {C} z j same all = ap (λ (k : Job H C). take z.taken (texts_in k.statements.now)) same ∙ taken_all j.statements.now z.taken all

-- the same were taken up
pub same_taken : {H C : Type 0} (y z : Worker H C) → y.job ≡ z.job → y.taken ≡ z.taken → texts_taken y ≡ texts_taken z
same_taken {H} {C} y z same taken = ap₂ (λ (k : Job H C) (n : ℕ). take n (texts_in k.statements.now)) same taken

module _ {H C : Type 0} (digest : H → List ℕ → List ℕ) (says : C → ℕ → Type 0) (job : Job H C) (v : Server) (serves : Serves (digest job.hasher) statement_of v) (y z : core.Session H) (n : ℕ) (s : SeatState)
    (ahead : IsAhead digest says v (at job y n) s) (ends : MayEndSession y.seat) (left : LeavesSession digest y z) where
  abbrev now : IsSeated digest says (known_by s) s.written (at job y n) ahead.t
  now = ahead.seated

  abbrev its_end : Ends v ahead.t y.seat
  its_end = left.ends v job.hasher ahead.t serves now.sits

  was : its_end.x ≡ now.sits.x
  was = one_session ahead.t.role its_end.x now.sits.x its_end.before now.sits.role

  abbrev last : List Entry
  last = last_entries (end_of y.seat.running)

  entries_are : its_end.w.transcript.entries ≡ now.sits.x.transcript.entries ++ last
  entries_are = its_end.entries ∙ ap (λ (x : Session). x.transcript.entries ++ last) was

  texts_are : statements its_end.w.transcript.entries ≡ take n (texts_in job.statements.now)
  texts_are = ap statements entries_are ∙ statements_more now.sits.x.transcript.entries last ∙ ap (λ (ts : List Text). statements now.sits.x.transcript.entries ++ ts) (no_statement (end_of y.seat.running))
      ∙ append-nil (statements now.sits.x.transcript.entries) ∙ all_answered digest says job v serves y n s ahead (none_at_end y.seat.point y.seat.running y.seat.text ends)

  shown : texts_shown z ≡ map (entry_text job.name.now) its_end.w.transcript.entries
  shown = left_shown y z now.last left ∙ ap₂ (λ (texts : List Text) (name : Text). texts ++ map (entry_text name) last) now.entries now.name
      ∙ sym (texts_more (entry_text job.name.now) now.sits.x.transcript.entries last) ∙ ap (map (entry_text job.name.now)) (sym entries_are)

  is_written : IsWritten (says_in says job) job.name.now (take n (texts_in job.statements.now)) (left_of (at job z n)) its_end.w
  is_written = record {
    session = its_end.session ∙ ap (λ (x : Session). x.transcript.session) was ∙ now.sits.name ∙ now.name;
    texts = texts_are;
    entries = shown;
    images = left.images ∙ sym now.images ∙ sym (its_end.images ∙ ap (λ (x : Session). x.images) was);
    moments = subst (Each (IsMoment (says_in says job))) (sym (its_end.moments ∙ ap (λ (x : Session). x.moments) was)) now.moments;
  }

  pub leaves_ahead : HasLeft says v (at job z n) s
  leaves_ahead = record {
    t = its_end.t;
    steps = more ahead.steps its_end.step;
    wrote = record {
      w = its_end.w;
      role = its_end.role;
      wrote = its_end.written ∙ ap (λ (ws : List Written). ws ++ its_end.w ∷ []) now.written;
      is = is_written;
      earlier = its_end.earlier ∙ ap (λ (x : Session). x.earlier) was ∙ now.earlier;
    };
  }

-- what was written of a session is written of whoever has the same of it, for the same job and texts, behind the same
pub written_for : {H C : Type 0} (says : C → ℕ → Type 0) (i j : Job H C) (ts us : List Text) (a b : SessionEnd) (s t u : SeatState) → i ≡ j → ts ≡ us → HasSameKnowledge s t → b.entries ≡ a.entries → b.images ≡ a.images
    → HasWritten (says_in says i) i.name.now ts a (known_by t) t.written u → HasWritten (says_in says j) j.name.now us b (known_by s) s.written u
written_for {H} {C} says i j ts us a b s t u same texts knowledge entries images h =
    subst₂ (λ (k : Job H C) (ls : List Text). HasWritten (says_in says k) k.name.now ls b (known_by s) s.written u) same texts (record {
      w = h.w;
      role = h.role;
      wrote = h.wrote ∙ ap (λ (ws : List Written). ws ++ h.w ∷ []) knowledge.written;
      is = record {
        session = h.is.session;
        texts = h.is.texts;
        entries = entries ∙ h.is.entries;
        images = images ∙ h.is.images;
        moments = h.is.moments;
      };
      earlier = h.earlier ∙ knowledge.known;
    })
