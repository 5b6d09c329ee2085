-- Digests of a run are held where their blocks are closed, and images of its cuts are accepted with them.
use Rattle.std.proofs.Common.{◌≡◌, ◌<◌, ℕ, List, [], ◌∷◌, length, map, refl, sym, ap, subst, ◌∙◌, inl, inr, ⊎_elim, arith}
use Rattle.std.proofs.lemmas.List.{take_all}
use Rattle.sql_types.specs.declared.digest.Digest.{Digest}
use Rattle.sql_types.specs.declared.digest.HeldDigest.{HeldDigest}
use Rattle.sql_types.specs.declared.journal.JournalItem.{JournalItem}
use Rattle.spec_model.specs.Journals.{cut}
use Rattle.spec_history.specs.Digests.{IsDigest}
use Rattle.spec_history.specs.Inputs.{InputLine}
use Rattle.spec_history.specs.Journals.{blocks}
use Rattle.spec_history.specs.Lists.{Text, Each, In}
use Rattle.spec_history.specs.Meaning.{Meaning}
use Rattle.spec_history.specs.Transcripts.{Transcript}
use Rattle.spec_syntax.specs.Text.{statement_of}
use Rattle.format_image.specs.Image.{image_of, image_of_cut}
use Rattle.format_image.specs.ImageBytes.{image_bytes}
use Rattle.spec_ledger.specs.Ledger.{block_hash}
use Rattle.spec_verify.specs.declared.place.Verdict.TheVariants.{Yes}
use Rattle.spec_verify.specs.Bytes.{verdict_of}
use Rattle.law_accepts.specs.Held.{held, IsHeld, AllHeld}
use Rattle.spec_protocol.specs.Seats.{KeptImage}
use Rattle.law_sequential.specs.SessionOutput.{IsMeaning, IsImageOf, RunAgrees}
use Rattle.law_sequential.proofs.SessionOutput.{some_meaning}
use Rattle.law_kept_images.proofs.Closed.{digests_are_closed}
use Rattle.law_kept_images.specs.Accepted.{IsOfCut, IsAccepted}

pub each_in : {A : Type 0} (P : A → Type 0) (xs : List A) (x : A) → Each P xs → In x xs → P x
each_in P [] x h i = absurd i
each_in P (y ∷ ys) x h i = ⊎_elim (λ (e : y ≡ x). subst P e h.0) (λ k. each_in P ys x h.1 k) i

-- what is held of a digest of this journal, at a cut in which its block is closed
abbrev pub Held : (List ℕ → List ℕ) → Text → List JournalItem → Type 0
Held h database J = (q : Meaning) (m : ℕ) (d : Digest) → ((K : List JournalItem) (b : ℕ) → q.block_hash K b ≡ block_hash h statement_of K b)
    → IsDigest q database J d → d.block < blocks (cut J m) → IsHeld h statement_of database (cut J m) (held d)

-- the verdict on the image of a cut
abbrev pub Verifies : (List ℕ → List ℕ) → Text → List JournalItem → ℕ → Type 0
Verifies h database J m = (digests : List HeldDigest) → AllHeld h statement_of database (cut J m) digests → verdict_of h digests (image_bytes (image_of_cut h statement_of database J m)) ≡ Yes

module _ (h : List ℕ → List ℕ) (database : Text) (size : ℕ) (names : List Text) (lines : List InputLine) (X : List Transcript) (images : List (List KeptImage)) (J : List JournalItem) (G : List Digest)
    (run : RunAgrees h statement_of database size names lines X images J G) (holds : Held h database J) where
  abbrev q : Meaning
  q = (some_meaning h statement_of).0

  abbrev real : IsMeaning h statement_of q
  real = (some_meaning h statement_of).1

  digests_are : Each (IsDigest q database J) G
  digests_are = (run.agree q real).digests_are_the_journals.each

  all_held : (m : ℕ) (digests : List Digest) → Each (IsOfCut J m G) digests → AllHeld h statement_of database (cut J m) (map held digests)
  all_held m [] e = tt
  all_held m (d ∷ ds) e = (holds q m d (λ K b. real.real.block_hash K b ∙ real.hashes K b) (each_in (IsDigest q database J) G d digests_are e.0.0) e.0.1, all_held m ds e.1)

  pub accepted : (k : KeptImage) → IsImageOf h statement_of database J k → Verifies h database J k.0 → IsAccepted h database J G k
  accepted k is verify digests e = ap (verdict_of h (map held digests)) is.bytes ∙ verify (map held digests) (all_held k.0 digests e)

-- the image of the whole journal is that of the cut of all its items
whole_image : (h : List ℕ → List ℕ) (database : Text) (J : List JournalItem) → IsImageOf h statement_of database J (length J, image_bytes (image_of h statement_of database J))
whole_image h database J = record {
  within = omega arith;
  bytes = ap (λ (K : List JournalItem). image_bytes (image_of h statement_of database K)) (sym (take_all (length J) J (omega arith)));
}

pub whole_accepted : (h : List ℕ → List ℕ) (database : Text) (size : ℕ) (names : List Text) (lines : List InputLine) (X : List Transcript) (images : List (List KeptImage)) (J : List JournalItem) (G : List Digest)
    → RunAgrees h statement_of database size names lines X images J G → Held h database J → Verifies h database J (length J) → IsAccepted h database J G (length J, image_bytes (image_of h statement_of database J))
whole_accepted h database size names lines X images J G run holds verify =
    accepted h database size names lines X images J G run holds (length J, image_bytes (image_of h statement_of database J)) (whole_image h database J) verify

-- with all digests of the run
module _ (h : List ℕ → List ℕ) (database : Text) (size : ℕ) (names : List Text) (lines : List InputLine) (X : List Transcript) (images : List (List KeptImage)) (J : List JournalItem) (G : List Digest)
    (run : RunAgrees h statement_of database size names lines X images J G) where
  closed_in_cut : (d : Digest) → In d G → IsOfCut J (length J) G d
  closed_in_cut d i =
      let m = some_meaning h statement_of in
      let closed = digests_are_closed m.0 database X J G (run.agree m.0 m.1).digests_are_the_journals d i in
      (i, subst (λ (K : List JournalItem). d.block < blocks K) (sym (take_all (length J) J (omega arith))) closed)

  each_closed : (H : List Digest) → ((d : Digest) → In d H → In d G) → Each (IsOfCut J (length J) G) H
  each_closed [] within = tt
  each_closed (d ∷ H) within = (closed_in_cut d (within d (inl refl)), each_closed H (λ e i. within e (inr i)))

  pub all_closed : Each (IsOfCut J (length J) G) G
  all_closed = each_closed G (λ d i. i)
