-- What is written and saved is that of the run.
use Rattle.std.proofs.Common.{◌≡◌, ◌∙◌, ℕ, List, map, sym, ap, subst}
use Rattle.std.specs.List.{AllByRecursion}
use Rattle.sql_types.specs.declared.journal.Journal.{Journal}
use Rattle.sql_types.specs.declared.digest.Digest.{Digest}
use Rattle.format_image.specs.Image.{image_of}
use Rattle.format_image.specs.ImageBytes.{image_bytes}
use Rattle.law_image.specs.Room.{FitsImageFormat}
use Rattle.spec_syntax.specs.Text.{statement_of}
use Rattle.format_journal.specs.Rules.{IsJournal}
use Rattle.format_digest.specs.Writing.{HasMoments}
use Rattle.law_behind.specs.Past.{Past}
use Rattle.format_lines.specs.Sessions.{sessions_of}
use Rattle.server_engine.specs.declared.parts.Parts.{Parts}
use Rattle.server_result.specs.declared.ran.RunOutcome.{RunOutcome}
use Rattle.server_step.specs.RunOutcome.{HasKept, HasRun, IsRunOutcome, run_left}
use Rattle.spec_history.specs.Lists.{Text}
use Rattle.spec_history.specs.Transcripts.{Transcript}
use Rattle.format_lines.specs.Line.{Statement}
use Rattle.server_engine.specs.Standing.{entry_texts}
use Rattle.server_step.specs.Numbers.{numbers_of}
use Rattle.server_step.specs.Woven.{woven, woven_text}
use Rattle.server_step.specs.Written.{rows_text}
use Rattle.server_step.proofs.OneList.{text_is_woven}

pub text_of_rows : (text : Text) (given names : List Text) (ss : List Statement) (X : List Transcript) (shown : List (List Text))
    → given ≡ names → map (λ x. x.session) X ≡ names → shown ≡ map entry_texts X → text ≡ woven_text (numbers_of given ss) shown
    → text ≡ rows_text names (woven (numbers_of names ss) (map (λ x. x.entries) X))
text_of_rows text given names ss X shown same named texts is =
    is
    ∙ ap (λ (ns : List Text). woven_text (numbers_of ns ss) shown) same
    ∙ ap (λ (ts : List (List Text)). woven_text (numbers_of names ss) ts) texts
    ∙ sym (text_is_woven (numbers_of names ss) X)
    ∙ ap (λ (ns : List Text). rows_text ns (woven (numbers_of names ss) (map (λ x. x.entries) X))) named

pub is_ran : {H : Type 0} (h : List ℕ → List ℕ) (past : Past) (database : Text) (size : ℕ) (says : ℕ → Type 0) (ss : List Statement) (names : List Text) (p : Parts H) (x : HasRun h past database size says ss p) (r : RunOutcome)
    → names ≡ sessions_of ss → HasKept names ss p r → IsJournal p.journal → AllByRecursion HasMoments p.digests
    → IsRunOutcome h (sessions_of ss) (run_left ss x.left.transcripts p) r
is_ran h past database size says ss names p x r same kept spelled moments = record {
  transcript = text_of_rows r.transcript names (sessions_of ss) ss x.left.transcripts (map (λ y. y.entries) p.sessions.items) same x.left.names x.left.texts kept.transcript;
  images = kept.images;
  image = kept.image ∙ x.left.image ∙ ap (λ (d : Text). image_bytes (image_of h statement_of d p.journal.items)) (sym x.left.database);
  journal = kept.journal;
  digests = kept.digests;
  journal_is_encodable = subst (λ (j : Journal). IsJournal j) (sym kept.journal) spelled;
  has_room = subst (λ (d : Text). FitsImageFormat h statement_of d p.journal.items) (sym x.left.database) x.left.room;
  digests_have_moments = subst (λ (ds : List Digest). AllByRecursion HasMoments ds) (sym kept.digests) moments;
}
