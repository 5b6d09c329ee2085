-- The image of a legal journal holds as a whole, and so the verdict on its bytes is Yes.
use Rattle.std.proofs.Common.{◌≡◌, ◌<◌, ℕ, refl, sym, ap, ◌∙◌, List, take, drop, inl, inr}
use Rattle.std.proofs.lemmas.List.{take-append-drop}
use Rattle.std.specs.List.{AllByRecursion}
use Rattle.sql_types.specs.declared.digest.HeldDigest.{HeldDigest}
use Rattle.sql_types.specs.declared.image.Image.{Image}
use Rattle.sql_types.specs.declared.journal.Journal.{Journal}
use Rattle.sql_types.specs.declared.journal.JournalItem.{JournalItem}
use Rattle.sql_types.specs.JournalRules.{ItemRules}
use Rattle.spec_model.specs.Journals.{cut, IsLegal}
use Rattle.spec_model.specs.LegalJournals.{IsLegalJournal}
use Rattle.spec_model.specs.Script.{Reading}
use Rattle.spec_history.specs.Digests.{Digest, IsDigest}
use Rattle.spec_history.specs.Journals.{blocks}
use Rattle.spec_history.specs.Meaning.{Meaning}
use Rattle.law_frame.proofs.UndoneTables.{first_few as all_take}
use Rattle.law_journal.proofs.Serials.{cut_legal}
use Rattle.law_catalog_rows.specs.Written.{ReadsWritten}
use Rattle.law_blocks.specs.Digests.{digest_of}
use Rattle.spec_ledger.specs.Ledger.{block_hash}
use Rattle.law_blocks.proofs.Staying.{hash_stays}
use Rattle.format_image.specs.Image.{image_of, image_of_cut}
use Rattle.format_image.specs.ImageBytes.{image_bytes, image_bytes_1, IsImage, IsImage1}
use Rattle.spec_verify.specs.declared.place.Verdict.TheVariants.{Yes}
use Rattle.spec_verify.specs.Bytes.{verdict_of}
use Rattle.spec_verify.specs.Verdict.{AllHold}
use Rattle.spec_verify.proofs.AllHold.{yes_exactly}
use Rattle.spec_verify.proofs.Judged.{of_image, of_two_spellings}
use Rattle.law_accepts.specs.Held.{held, IsHeld, AllHeld}
use Rattle.law_accepts.proofs.Blocks.{digests_hold, chain_holds}
use Rattle.law_accepts.proofs.Definitions.{definitions_hold}
use Rattle.law_accepts.proofs.Ids.{ids_hold}
use Rattle.law_accepts.proofs.Indexes.{indexes_hold}
use Rattle.law_accepts.proofs.OneStatement.{have_one_statement}
use Rattle.law_accepts.proofs.Roots.{roots_hold}
use Rattle.law_accepts.proofs.Rules.{no_version_breaks_a_rule, table_rules_hold}
use Rattle.law_accepts.proofs.Sizes.{blocks_hold}
use Rattle.law_accepts.proofs.Versions.{versions_hold}

-- ---- digests

module _ (h : List ℕ → List ℕ) (reads : Reading) where
  -- the hash of a block that is closed in a cut is that of the whole journal
  cut_hash : (items : List JournalItem) (m b : ℕ) → b < blocks (cut items m) → block_hash h reads items b ≡ block_hash h reads (cut items m) b
  cut_hash items m b closed = ap (λ (J : List JournalItem). block_hash h reads J b) (sym (take-append-drop m items)) ∙ hash_stays h reads (take m items) (drop m items) b closed

  -- a digest is held at each cut in which its block is closed
  pub held_at : (q : Meaning) (database : List ℕ) (items : List JournalItem) (m : ℕ) (d : Digest) → ((J : List JournalItem) (b : ℕ) → q.block_hash J b ≡ block_hash h reads J b)
      → IsDigest q database items d → d.block < blocks (cut items m) → IsHeld h reads database (cut items m) (held d)
  held_at q database items m d hashes is closed =
      record { of = is.of; closed = closed; hash = is.hash ∙ hashes items d.block ∙ cut_hash items m d.block closed }

  pub issued_at : (database : List ℕ) (items : List JournalItem) (m n b made : ℕ) → b < blocks (cut items m) → b < blocks (cut items n)
      → IsHeld h reads database (cut items n) (held (digest_of h reads database (cut items m) b made))
  issued_at database items m n b made at_m at_n =
      record { of = refl; closed = at_n; hash = sym (cut_hash items m b at_m) ∙ cut_hash items n b at_n }

  -- ---- the verdict

  module _ (database : List ℕ) where
    pub all_hold : (items : List JournalItem) (digests : List HeldDigest) → ReadsWritten reads → AllByRecursion ItemRules items → IsLegal reads items → AllHeld h reads database items digests
        → AllHold h (image_of h reads database items) digests
    all_hold items digests written rules legal all_held = record {
      digests_hold = digests_hold h reads database items digests all_held;
      chain = chain_holds h reads database items;
      blocks = blocks_hold h reads database items legal;
      ids = ids_hold h reads database items legal;
      roots = roots_hold h reads database items legal;
      versions = versions_hold h reads database items legal;
      version_rules = no_version_breaks_a_rule h reads database items written legal;
      definitions = definitions_hold h reads database items written legal;
      table_rules = table_rules_hold h reads database items written legal (have_one_statement items rules);
      indexes = indexes_hold h reads database items legal;
    }

  pub verifies : (j : Journal) (m : ℕ) (digests : List HeldDigest) → ReadsWritten reads → IsLegalJournal reads j → AllHeld h reads j.database (cut j.items m) digests
      → IsImage (image_of_cut h reads j.database j.items m)
      → verdict_of h digests (image_bytes (image_of_cut h reads j.database j.items m)) ≡ Yes
  verifies j m digests written legal all_held is_image =
      let i : Image = image_of_cut h reads j.database j.items m in
      of_image h digests i is_image
      ∙ (yes_exactly h i digests).1 (all_hold j.database (cut j.items m) digests written (all_take ItemRules m j.items legal.items) (cut_legal reads j.items m legal.legal) all_held)

  pub verifies_1 : (j : Journal) (m : ℕ) (digests : List HeldDigest) → ReadsWritten reads → IsLegalJournal reads j → AllHeld h reads j.database (cut j.items m) digests
      → IsImage1 (image_of_cut h reads j.database j.items m)
      → verdict_of h digests (image_bytes_1 (image_of_cut h reads j.database j.items m)) ≡ Yes
  verifies_1 j m digests written legal all_held is_image =
      let i : Image = image_of_cut h reads j.database j.items m in
      of_two_spellings h digests (image_bytes_1 i) (image_bytes i) i is_image.0 (inr (is_image.1, refl)) (inl refl)
      ∙ verifies j m digests written legal all_held is_image.0
