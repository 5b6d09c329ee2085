-- What is accepted with the digests with which an image is accepted.
use Rattle.std.proofs.Common.{◌≡◌, ℕ, List, length, sym, ◌∙◌}
use Rattle.sql_types.specs.declared.digest.HeldDigest.{HeldDigest}
use Rattle.sql_types.specs.declared.image.Image.{Image}
use Rattle.sql_types.specs.declared.journal.Journal.{Journal}
use Rattle.sql_types.specs.declared.journal.JournalItem.{JournalItem}
use Rattle.spec_model.specs.Journals.{cut, IsLegal}
use Rattle.spec_model.specs.LegalJournals.{IsLegalJournal}
use Rattle.spec_model.specs.Script.{Reading}
use Rattle.law_journal.proofs.Serials.{cut_legal}
use Rattle.spec_syntax.specs.Text.{statement_of}
use Rattle.law_catalog_rows.specs.Written.{ReadsWritten}
use Rattle.format_image.specs.Image.{image_of}
use Rattle.format_image.specs.ImageBytes.{image_bytes, IsImage}
use Rattle.spec_verify.specs.declared.place.Verdict.TheVariants.{Yes}
use Rattle.spec_verify.specs.Bytes.{verdict_of}
use Rattle.spec_verify.proofs.Judged.{of_spelling, of_image}
use Rattle.audit_extract.proofs.Agreeing.{Injective}
use Rattle.audit_extract.proofs.EachDigest.{agree_or_collide, one_history_of_bytes}
use Rattle.law_image.specs.Room.{FitsImageFormat}
use Rattle.law_accepts.proofs.RoomOfCuts.{room_of_cut}
use Rattle.law_headline.specs.Headline.{IsBoundBy, image_at}

-- whatever is accepted with these digests is bound to an image that is
abbrev pub AreBound : Type 0
AreBound = (h : List ℕ → List ℕ) (i : Image) (digests : List HeldDigest) → ((bytes : List ℕ) → length (h bytes) ≡ 32) → IsImage i
    → verdict_of h digests (image_bytes i) ≡ Yes → IsBoundBy h i digests

pub are_bound : Injective → AreBound
are_bound one h i digests sized is accepted = record {
  yes = accepted;
  alone = λ bytes fits accepts.
      let p = one_history_of_bytes one h digests bytes bytes sized fits fits accepts accepts in
      record {
        other = p.first;
        is = p.is_first;
        same = agree_or_collide h i p.first is p.is_first.0 one sized digests
            (sym (of_image h digests i is) ∙ accepted)
            (sym (of_spelling h digests bytes p.first p.is_first.0 p.is_first.1) ∙ accepts);
      };
}

-- ---- of a journal

-- the images of legal journals have a spelling
abbrev pub AreEncodable : Type 0
AreEncodable = (h : List ℕ → List ℕ) (reads : Reading) (database : List ℕ) (items : List JournalItem) → ReadsWritten reads → IsLegal reads items
    → FitsImageFormat h reads database items → IsImage (image_of h reads database items)

pub cut_is_image : AreEncodable → ReadsWritten statement_of → (h : List ℕ → List ℕ) (J : Journal) → IsLegalJournal statement_of J
    → FitsImageFormat h statement_of J.database J.items → (m : ℕ) → IsImage (image_at h J m)
cut_is_image encodable written h J legal room m =
    encodable h statement_of J.database (cut J.items m) written (cut_legal statement_of J.items m legal.legal)
    (room_of_cut h statement_of J.database J.items m legal.legal room)
