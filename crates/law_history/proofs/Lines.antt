-- In a history of one statement after another, the entries answer the lines in their order.
use Rattle.std.proofs.Common.{◌≡◌, ◌≢◌, ℕ, ◌<◌, List, [], ◌∷◌, ◌++◌, length, Option, Some, None, refl, sym, ap, ◌∙◌, subst, ⊎_elim}
use Rattle.std.proofs.lemmas.Bool.{eq-eqb, ne_eqb, cases_eq}
use Rattle.spec_history.specs.Lists.{Text, At}
use Rattle.spec_history.specs.Inputs.{InputLine}
use Rattle.spec_history.specs.Meaning.{Meaning}
use Rattle.spec_history.specs.Transcripts.{Entry, statement, end_of_session, Transcript}
use Rattle.spec_history.specs.StepOrder.{RowsInOrder}
use Rattle.spec_history.specs.Acts.{SessionAct, takes, answers, Act, by, closes}
use Rattle.spec_history.specs.Sessions.{runs, acted, transcript_of}
use Rattle.spec_history.specs.Worlds.{World, put, step, run}
use Rattle.spec_history.specs.Guards.{Good}
use Rattle.spec_history.specs.Histories.{SessionsBelow, IsIdle, OneAtATime, lines_of, EndsComeLast, rows_of}
use Rattle.law_history.proofs.Names.{keeps_name}

-- what is under way stays, where the act leaves it
under_same : (w : World) (s : ℕ) (a : SessionAct) → (acted (w.at s) a).so_far.under ≡ (w.at s).so_far.under → (t : ℕ) → ((step w (by s a)).at t).so_far.under ≡ (w.at t).so_far.under
under_same w s a e t = ⊎_elim
    (λ (same : t ≡ s). subst (λ (u : ℕ). (put w.at s (acted (w.at s) a) u).so_far.under ≡ (w.at u).so_far.under) (sym same) (rw (eq-eqb s s refl) e))
    (λ (ne : t ≢ s). rw (ne_eqb t s ne) refl) (cases_eq t s)

-- and else it is what the act makes of it
under_here : (w : World) (s : ℕ) (a : SessionAct) → ((step w (by s a)).at s).so_far.under ≡ (acted (w.at s) a).so_far.under
under_here w s a = rw (eq-eqb s s refl) refl

under_else : (w : World) (s : ℕ) (a : SessionAct) (t : ℕ) → t ≢ s → ((step w (by s a)).at t).so_far.under ≡ (w.at t).so_far.under
under_else w s a t ne = rw (ne_eqb t s ne) refl

none_some : {A : Type 0} (o : Option A) (x : A) → o ≡ None → o ≡ Some x → ⊥
none_some o x e f = cc

module _ (q : Meaning) (db : Text) (X : List Transcript) (end : World) (there : (t : ℕ) → t < length X → At X t (transcript_of (end.at t))) (none : (t : ℕ) → t < length X → (end.at t).so_far.under ≡ None) where
  -- this line of session s is under way
  pub record Taken (w : World) (s : ℕ) (line : InputLine) : Type 0 where
    pub text : (w.at s).so_far.under ≡ Some line.text
    pub below : s < length X
    pub name : (end.at s).name ≡ line.session
    pub others : (t : ℕ) → t ≢ s → (w.at t).so_far.under ≡ None

  -- one line is under way, or none
  abbrev pub UnderWay : World → Option (ℕ × InputLine) → Type 0
  UnderWay w None = (t : ℕ) → (w.at t).so_far.under ≡ None
  UnderWay w (Some p) = Taken w p.0 p.1

  abbrev pub waiting : Option (ℕ × InputLine) → List InputLine
  waiting None = []
  waiting (Some p) = p.1 ∷ []

  stays_so : (w : World) (s : ℕ) (a : SessionAct) (o : Option (ℕ × InputLine)) → (acted (w.at s) a).so_far.under ≡ (w.at s).so_far.under → UnderWay w o → UnderWay (step w (by s a)) o
  stays_so w s a None e u = λ t. under_same w s a e t ∙ u t
  stays_so w s a (Some p) e u = record { text = under_same w s a e p.0 ∙ u.text; below = u.below; name = u.name; others = λ t ne. under_same w s a e t ∙ u.others t ne }

  -- where the acting session is in no statement, none is under way
  only_none : (w : World) (s : ℕ) (p : ℕ × InputLine) → (w.at s).so_far.under ≡ None → ((t : ℕ) → t ≢ s → IsIdle (w.at t)) → Taken w p.0 p.1 → ⊥
  only_none w s p e alone u = ⊎_elim
      (λ (same : p.0 ≡ s). none_some (w.at p.0).so_far.under p.1.text (ap (λ (t : ℕ). (w.at t).so_far.under) same ∙ e) u.text)
      (λ (ne : p.0 ≢ s). none_some (w.at p.0).so_far.under p.1.text (alone p.0 ne).under u.text) (cases_eq p.0 s)

  name_at_end : (w : World) (es : List Act) (s : ℕ) → Good q db w es → run w es ≡ end → (w.at s).phase ≡ runs → (end.at s).name ≡ (w.at s).name
  name_at_end w es s g e r = subst (λ (v : World). (v.at s).name ≡ (w.at s).name) e (keeps_name q db (w.at s).name s w es g ((λ u. cc), refl)).1

  answered_then : (w : World) (s : ℕ) (x : Entry) → ((t : ℕ) → t ≢ s → (w.at t).so_far.under ≡ None) → (t : ℕ) → ((step w (by s (answers x))).at t).so_far.under ≡ None
  answered_then w s x others t = ⊎_elim
      (λ (same : t ≡ s). subst (λ (u : ℕ). ((step w (by s (answers x))).at u).so_far.under ≡ None) (sym same) (under_here w s (answers x)))
      (λ (ne : t ≢ s). under_else w s (answers x) t ne ∙ others t ne) (cases_eq t s)

  pub rows_answer : (w : World) (es : List Act) (o : Option (ℕ × InputLine)) → Good q db w es → run w es ≡ end → SessionsBelow (length X) es → OneAtATime w es → EndsComeLast w es → UnderWay w o → RowsInOrder X (waiting o ++ lines_of w es) (rows_of es)
  rows_answer w [] None g e b alone ends u = tt
  rows_answer w [] (Some p) g e b alone ends u = absurd (none_some (w.at p.0).so_far.under p.1.text (ap (λ (v : World). (v.at p.0).so_far.under) e ∙ none p.0 u.below) u.text)
  rows_answer w (closes k ∷ es) None g e b alone ends u = rows_answer (step w (closes k)) es None g.1 e b alone ends u
  rows_answer w (closes k ∷ es) (Some p) g e b alone ends u = rows_answer (step w (closes k)) es (Some p) g.1 e b alone ends (record { text = u.text; below = u.below; name = u.name; others = u.others })
  rows_answer w (by s (takes text) ∷ es) None g e b alone ends u = rows_answer (step w (by s (takes text))) es (Some (s, record { session = (w.at s).name; text = text })) g.1 e b.1 alone.1 ends (record {
    text = under_here w s (takes text);
    below = b.0;
    name = name_at_end w (by s (takes text) ∷ es) s g e (g.0).0;
    others = λ t ne. under_else w s (takes text) t ne ∙ (alone.0 t ne).under;
  })
  rows_answer w (by s (takes text) ∷ es) (Some p) g e b alone ends u = absurd (only_none w s p (g.0).1 alone.0 u)
  rows_answer w (by s (answers (statement text r line)) ∷ es) None g e b alone ends u = absurd (none_some (w.at s).so_far.under text (u s) (g.0).answered)
  rows_answer w (by s (answers (statement text r line)) ∷ es) (Some p) g e b alone ends u = ⊎_elim
      (λ (same : s ≡ p.0). (
        record {
          transcript = transcript_of (end.at s);
          there = there s b.0;
          session = ap (λ (t : ℕ). (end.at t).name) same ∙ u.name;
          statement = let here : (w.at s).so_far.under ≡ Some p.1.text = ap (λ (t : ℕ). (w.at t).so_far.under) same ∙ u.text in let its = (g.0).answered in cc;
        },
        rows_answer (step w (by s (answers (statement text r line)))) es None g.1 e b.1 alone.1 ends (answered_then w s (statement text r line) (λ t ne. (alone.0 t ne).under)),
      ))
      (λ (ne : s ≢ p.0). absurd (none_some (w.at s).so_far.under text (u.others s ne) (g.0).answered)) (cases_eq s p.0)
  rows_answer w (by s (answers (end_of_session line)) ∷ es) None g e b alone ends u =
      let v : World = step w (by s (answers (end_of_session line))) in
      let rest = rows_answer v es None g.1 e b.1 alone.1 ends.1 (answered_then w s (end_of_session line) (λ t ne. (alone.0 t ne).under)) in
      let ls : List InputLine = lines_of v es in
      subst (λ (z : List InputLine). RowsInOrder X z ((s, end_of_session line) ∷ rows_of es)) (sym ends.0)
      (record { transcript = transcript_of (end.at s); there = there s b.0; end = tt }, subst (λ (z : List InputLine). RowsInOrder X z (rows_of es)) ends.0 rest)
  rows_answer w (by s (answers (end_of_session line)) ∷ es) (Some p) g e b alone ends u = absurd (only_none w s p (g.0).answered alone.0 u)
  rows_answer w (by s a ∷ es) o g e b alone ends u = rows_answer (step w (by s a)) es o g.1 e b.1 alone.1 ends (stays_so w s a o refl u)
