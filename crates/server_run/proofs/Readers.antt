-- What was answered over snapshots, and how it is written behind transcripts.
use Rattle.std.proofs.Common.{◌≡◌, ◌∙◌, ℕ, List, [], ◌∷◌, ◌++◌, flat_map, map, refl, sym, ap, ap₂, subst, append-nil, append_assoc, inl}
use Rattle.sql_types.specs.declared.journal.Journal.{Journal}
use Rattle.spec_model.specs.Journals.{cut, serial}
use Rattle.spec_history.specs.Lists.{Text, Each}
use Rattle.spec_history.specs.Transcripts.{Entry}
use Rattle.spec_syntax.specs.Text.{statement_of}
use Rattle.format_image.specs.Image.{image_of_cut}
use Rattle.format_image.specs.ImageBytes.{IsImage}
use Rattle.format_sections.specs.RunSections as all_sections
use Rattle.format_sections.specs.RunSections.{section_view, statements_answered}
use Rattle.format_sections.specs.declared.kind.SectionKind.TheVariants.{Session}
use Rattle.format_sections.specs.declared.section.Section.{Section}
use Rattle.format_transcript.specs.TranscriptText.{entry_text, transcript_text}
use Rattle.spec_protocol.specs.Seats.{KeptImage, Written}
use Rattle.server_ending.specs.SessionOutput.{IsImageOf}
use Rattle.server_ending.specs.Wrote.{transcripts_in}
use Rattle.law_snapshots.specs.Answered.{AreAnswered, AreAnsweredOver, whole_database}
use Rattle.server_result.specs.Joined.{joined, joined_each}
use Rattle.server_run.specs.CameTo.{AllAnswered, IsAnswered, texts_with}
use Rattle.server_run.specs.FinishedRun.{setup_name}
use Rattle.server_run.specs.AllWrote.{AreWritten}
use Rattle.server_thread.specs.Wrote.{IsWritten}
use Rattle.server_thread.specs.SessionEnd.{SessionEnd}

-- ---- texts

joined_both : (a b : List Text) → joined (a ++ b) ≡ joined a ++ joined b
joined_both [] b = refl
joined_both (t ∷ a) b = ap (λ (z : List ℕ). t ++ z) (joined_both a b) ∙ sym (append_assoc t (joined a) (joined b))

entries_joined : (name : Text) (es : List Entry) → joined (map (entry_text name) es) ≡ flat_map (entry_text name) es
entries_joined name [] = refl
entries_joined name (e ∷ es) = ap (λ (b : List ℕ). entry_text name e ++ b) (entries_joined name es)

-- the entries of a session are its transcript
session_text : (says : ℕ → Type 0) (name : Text) (texts : List Text) (e : SessionEnd) (w : Written) → IsWritten says name texts e w → joined e.entries ≡ transcript_text w.transcript
unfolding transcript_text
session_text says name texts e w is =
    ap joined (is.entries ∙ ap (λ (n : Text). map (entry_text n) w.transcript.entries) (sym is.session))
    ∙ entries_joined w.transcript.session w.transcript.entries

module _ (says : ℕ → Type 0) where
  -- what was answered behind each session
  abbrev pub answers_in : (ps : List Section) (es : List SessionEnd) (ws : List Written) → AreWritten says ps es ws → List (List Text)
  answers_in [] [] [] a = []
  answers_in [] [] (w ∷ ws) a = absurd a
  answers_in [] (e ∷ es) ws a = absurd a
  answers_in (p ∷ ps) [] ws a = absurd a
  answers_in (p ∷ ps) (e ∷ es) [] a = absurd a
  answers_in (p ∷ ps) (e ∷ es) (w ∷ ws) a = a.0.answered.entries ∷ answers_in ps es ws a.1

  all_texts : (ps : List Section) (es : List SessionEnd) (ws : List Written) (a : AreWritten says ps es ws)
      → joined_each (map (λ e. e.entries) es) ≡ texts_with (transcripts_in ws) (answers_in ps es ws a)
  all_texts [] [] [] a = refl
  all_texts [] [] (w ∷ ws) a = absurd a
  all_texts [] (e ∷ es) ws a = absurd a
  all_texts (p ∷ ps) [] ws a = absurd a
  all_texts (p ∷ ps) (e ∷ es) [] a = absurd a
  all_texts (p ∷ ps) (e ∷ es) (w ∷ ws) a =
      let of = a.0 in
      ap₂ (λ (x y : List ℕ). x ++ y)
      (ap joined of.answered.whole ∙ joined_both of.left.entries of.answered.entries ∙ ap (λ (x : List ℕ). x ++ joined of.answered.entries) (session_text says p.name.now _ of.left w of.is))
      (all_texts ps es ws a.1)

  -- and of the setup, behind which nothing is answered
  pub run_text : (texts : List Text) (setup : SessionEnd) (first : Written) → IsWritten says setup_name texts setup first → (ps : List Section) (es : List SessionEnd) (ws : List Written) (a : AreWritten says ps es ws)
      → joined_each (setup.entries ∷ map (λ e. e.entries) es) ≡ texts_with (transcripts_in (first ∷ ws)) ([] ∷ answers_in ps es ws a)
  run_text texts setup first is ps es ws a =
      ap₂ (λ (x y : List ℕ). x ++ y) (session_text says setup_name texts setup first is ∙ sym (append-nil (transcript_text first.transcript))) (all_texts ps es ws a)

  -- ---- what was answered

  module _ (h : List ℕ → List ℕ) (J : Journal) (encodable : (m : ℕ) → IsImage (image_of_cut h statement_of J.database J.items m))
      (serially : (m : ℕ) (name : Text) (texts entries : List Text) → AreAnsweredOver (whole_database (image_of_cut h statement_of J.database J.items m)) name texts entries
      → AreAnsweredOver (serial statement_of (cut J.items m)) name texts entries) where
    abbrev AreOf : List KeptImage → Type 0
    AreOf kept = Each (IsImageOf h statement_of J.database J.items) kept

    section_answered : (s : all_sections.Section) (kept : List KeptImage) (entries : List Text) → AreOf kept → AreAnswered s.name (statements_answered s) kept entries → IsAnswered J s kept entries
    section_answered s [] entries are a = a
    section_answered s (k ∷ kept) entries are a =
        serially k.0 s.name (statements_answered s) entries (a (image_of_cut h statement_of J.database J.items k.0) (encodable k.0) (inl are.0.bytes))

    -- a section of a session answers no text
    pub none_answered : (name : Text) (statements : List Text) (kept : List KeptImage) → IsAnswered J (record { name = name; kind = Session; statements = statements }) kept []
    none_answered name statements [] = refl
    none_answered name statements (k ∷ kept) = record { answers = []; texts_are = refl; each = tt; is = refl }

    pub all_answered : (ps : List Section) (es : List SessionEnd) (ws : List Written) (a : AreWritten says ps es ws) → Each AreOf (map (λ w. w.images) ws)
        → AllAnswered J (map section_view ps) (map (λ w. w.images) ws) (answers_in ps es ws a)
    all_answered [] [] [] a are = tt
    all_answered [] [] (w ∷ ws) a are = absurd a
    all_answered [] (e ∷ es) ws a are = absurd a
    all_answered (p ∷ ps) [] ws a are = absurd a
    all_answered (p ∷ ps) (e ∷ es) [] a are = absurd a
    all_answered (p ∷ ps) (e ∷ es) (w ∷ ws) a are =
        let of = a.0 in
        let kept : AreAnswered p.name.now (statements_answered (section_view p)) w.images of.answered.entries =
        subst (λ (images : List KeptImage). AreAnswered p.name.now (statements_answered (section_view p)) images of.answered.entries) of.is.images of.answered.answered in
        (section_answered (section_view p) w.images of.answered.entries are.0 kept, all_answered ps es ws a.1 are.1)
