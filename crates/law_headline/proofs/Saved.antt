-- Each image that is saved is that of its part of the journal, and what is accepted with its digests is bound to it.
use Rattle.std.proofs.Common.{◌≡◌, ◌<◌, ℕ, List, [], ◌∷◌, ◌++◌, length, map, refl, sym, ap, subst, ◌∙◌, ⊎_elim, arith}
use Rattle.std.proofs.lemmas.List.{take_all}
use Rattle.sql_types.specs.declared.digest.Digest.{Digest}
use Rattle.sql_types.specs.declared.journal.Journal.{Journal}
use Rattle.sql_types.specs.declared.journal.JournalItem.{JournalItem}
use Rattle.spec_model.specs.Journals.{cut}
use Rattle.spec_model.specs.LegalJournals.{IsLegalJournal}
use Rattle.spec_history.specs.Facts.{Fact}
use Rattle.spec_history.specs.Journals.{blocks}
use Rattle.spec_history.specs.Lists.{Each, In, Some_of}
use Rattle.spec_history.proofs.Settles.{in_left}
use Rattle.spec_history.proofs.Trace.{each_append, each_weaker}
use Rattle.spec_syntax.specs.Text.{statement_of}
use Rattle.law_catalog_rows.specs.Written.{ReadsWritten}
use Rattle.format_image.specs.Image.{image_of}
use Rattle.format_image.specs.ImageBytes.{image_bytes}
use Rattle.spec_protocol.specs.Seats.{KeptImage}
use Rattle.spec_verify.specs.declared.place.Verdict.TheVariants.{Yes}
use Rattle.spec_verify.specs.Bytes.{verdict_of}
use Rattle.law_image.specs.Room.{FitsImageFormat}
use Rattle.law_kept_images.specs.Accepted.{IsAccepted, IsOfCut}
use Rattle.law_kept_images.specs.Held.{held}
use Rattle.law_kept_images.specs.LastImage.{journal_of, last_image, last_image_bytes}
use Rattle.law_kept_images.specs.SessionOutput.{IsImageOf}
use Rattle.law_kept_images.proofs.Accepts.{each_in}
use Rattle.server_result.specs.Images.{AreKept}
use Rattle.law_headline.specs.Before.{ComesBefore, IsEarlier}
use Rattle.law_headline.specs.Headline.{IsBoundBy, IsSaved, image_at}
use Rattle.law_headline.proofs.Bound.{AreBound, AreEncodable, cut_is_image}

-- what holds of all that some lists have holds of what one of them has
pub in_some : {A : Type 0} (P : A → Type 0) (lists : List (List A)) (x : A) → Each (λ xs. Each P xs) lists → Some_of (λ xs. In x xs) lists → P x
in_some P [] x all some = absurd some
in_some P (xs ∷ lists) x all some = ⊎_elim (λ i. each_in P xs x all.0 i) (λ s. in_some P lists x all.1 s) some

-- a journal that is legal is so in the version of a running server
pub in_this_version : (J : Journal) → IsLegalJournal statement_of J → IsLegalJournal statement_of (journal_of J.database J.items)
in_this_version J legal = record {
  version = refl;
  database = legal.database;
  items = legal.items;
  legal = legal.legal;
}

-- of each image, where the digests that came before it are of blocks that are closed in it
pub with_earlier : (h : List ℕ → List ℕ) (J : Journal) (G : List Digest) (images : List KeptImage) → Each (IsSaved h J G) (images ++ last_image h J ∷ [])
    → (facts : List Fact) → ((d : Digest) → In d G → (items : ℕ) → ComesBefore d.block items facts → d.block < blocks (cut J.items items))
    → (k : KeptImage) → In k images → (digests : List Digest) → Each (IsEarlier G k.0 facts) digests → verdict_of h (map held digests) k.1 ≡ Yes
with_earlier h J G images all facts closed k there digests earlier =
    let saved = each_in (IsSaved h J G) (images ++ last_image h J ∷ []) k all (in_left k images (last_image h J ∷ []) there) in
    let of_cut = each_weaker (IsEarlier G k.0 facts) (IsOfCut J.items k.0 G) (λ d e. (e.0, closed d e.0 k.0 e.1)) digests earlier in
    ap (verdict_of h (map held digests)) saved.of_its_part.bytes ∙ (saved.bound digests of_cut).yes

module _ (bound : AreBound) (encodable : AreEncodable) (written : ReadsWritten statement_of) (h : List ℕ → List ℕ) (J : Journal) (G : List Digest)
    (legal : IsLegalJournal statement_of J) (room : FitsImageFormat h statement_of J.database J.items) where
  abbrev IsOf : KeptImage → Type 0
  IsOf k = IsImageOf h statement_of J.database J.items k

  abbrev Accepts : KeptImage → Type 0
  Accepts k = IsAccepted h J.database J.items G k

  is_saved : (k : KeptImage) → IsOf k → Accepts k → IsSaved h J G k
  is_saved k is accepts = record {
    of_its_part = is;
    bound = λ digests closed. bound h (image_at h J k.0) (map held digests) room.hash (cut_is_image encodable written h J legal room k.0)
        (sym (ap (verdict_of h (map held digests)) is.bytes) ∙ accepts digests closed);
  }

  -- the image of the whole journal is that of the cut of all its items
  whole : image_of h statement_of J.database J.items ≡ image_at h J (length J.items)
  whole = ap (λ (K : List JournalItem). image_of h statement_of J.database K) (sym (take_all (length J.items) J.items (omega arith)))

  is_last : IsOf (last_image h J)
  is_last = record { within = omega arith; bytes = ap image_bytes whole }

  pub all_saved : (kept : List (List KeptImage)) (images : List KeptImage) → AreKept kept images → Each (λ ks. Each IsOf ks) kept → Each (λ ks. Each Accepts ks) kept
      → Accepts (last_image h J) → Each (IsSaved h J G) (images ++ last_image h J ∷ [])
  all_saved kept images are is accepts last = each_append (IsSaved h J G) images (last_image h J ∷ [])
      (each_weaker (λ k. Some_of (λ ks. In k ks) kept) (IsSaved h J G)
      (λ k some. is_saved k (in_some IsOf kept k is some) (in_some Accepts kept k accepts some)) images are.no_others)
      (is_saved (last_image h J) is_last last, tt)

  pub whole_bound : verdict_of h (map held G) (last_image_bytes h J) ≡ Yes → IsBoundBy h (image_of h statement_of J.database J.items) (map held G)
  whole_bound accepted = subst (λ i. IsBoundBy h i (map held G)) (sym whole)
      (bound h (image_at h J (length J.items)) (map held G) room.hash (cut_is_image encodable written h J legal room (length J.items))
      (sym (ap (λ i. verdict_of h (map held G) (image_bytes i)) whole) ∙ accepted))
