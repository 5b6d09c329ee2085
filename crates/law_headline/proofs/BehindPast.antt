-- Each image that a run saved behind a past is that of its part of the journal, and what is accepted with its digests is
-- bound to it.
use Rattle.std.proofs.Common.{◌≡◌, ◌⊎◌, ◌<◌, ℕ, List, [], ◌∷◌, ◌++◌, length, length-append, None, sym, ap, ◌∙◌, inl, inr, ⊎_elim, arith}
use Rattle.std.proofs.lemmas.List.{take_all}
use Rattle.sql_types.specs.declared.digest.Digest.{Digest}
use Rattle.sql_types.specs.declared.digest.HeldDigest.{HeldDigest}
use Rattle.sql_types.specs.declared.journal.Journal.{Journal}
use Rattle.sql_types.specs.declared.journal.JournalItem.{JournalItem}
use Rattle.spec_model.specs.Journals.{cut}
use Rattle.spec_model.specs.LegalJournals.{IsLegalJournal}
use Rattle.spec_history.specs.Facts.{Fact, digest, image}
use Rattle.spec_history.specs.Inputs.{InputLine}
use Rattle.spec_history.specs.Journals.{blocks}
use Rattle.spec_history.specs.Lists.{Each, In, Some_of}
use Rattle.spec_history.specs.Meaning.{Meaning}
use Rattle.spec_history.specs.Serial.{IsLegal}
use Rattle.spec_history.specs.StepOrder.{Row, rows_facts}
use Rattle.spec_history.specs.Transcripts.{Transcript}
use Rattle.spec_history.proofs.Settles.{in_left}
use Rattle.spec_history.proofs.Trace.{each_append, each_weaker}
use Rattle.spec_syntax.specs.Text.{statement_of}
use Rattle.law_catalog_rows.specs.Written.{ReadsWritten}
use Rattle.format_image.specs.Image.{image_of}
use Rattle.format_image.specs.ImageBytes.{image_bytes}
use Rattle.spec_protocol.specs.Seats.{KeptImage}
use Rattle.spec_verify.specs.declared.place.Verdict.TheVariants.{Yes}
use Rattle.spec_verify.specs.Bytes.{verdict_of}
use Rattle.law_image.specs.Room.{FitsImageFormat}
use Rattle.law_behind.specs.OrderBehind.{IsStepOrderBehind}
use Rattle.law_behind.specs.Past.{Past, since}
use Rattle.law_kept_images.specs.AcceptedBehind.{IsAcceptedBehind, IsHeldOfPast, IsHeldOfRun}
use Rattle.law_kept_images.specs.LastImage.{last_image}
use Rattle.law_kept_images.proofs.Accepts.{each_in}
use Rattle.law_kept_images.proofs.WithPast.{IsWhole}
use Rattle.law_kept_images.specs.Outcome.{IsClosedThere}
use Rattle.server_result.specs.Images.{AreKept}
use Rattle.law_headline.specs.Before.{ComesBefore}
use Rattle.law_headline.specs.BeforeBehind.{InOrderOfLinesBehind, IsHeldEarlier}
use Rattle.law_headline.specs.Headline.{image_at}
use Rattle.law_headline.specs.HeadlineBehind.{IsSavedBehind}
use Rattle.law_headline.proofs.Before.{each_at}
use Rattle.law_headline.proofs.Bound.{AreBound, AreEncodable, cut_is_image}
use Rattle.law_headline.proofs.Saved.{in_some}

-- ---- digests before an image in step order

-- the law that is used
abbrev pub AreClosedBehind : Type 0
AreClosedBehind = (q : Meaning) (N : ℕ) (past : Past) (lines : List InputLine) (X : List Transcript) (J : List JournalItem) (rows : List Row)
    → IsLegal q J → J ≡ past.items ++ since past J → IsStepOrderBehind q N past lines X J rows → (before after : List Fact) (items : ℕ)
    → rows_facts q (λ s. None) rows ≡ before ++ image items ∷ after → Each (IsClosedThere J items) before

pub closed_in_order_behind : AreClosedBehind → (q : Meaning) (size : ℕ) (past : Past) (lines : List InputLine) (X : List Transcript) (J : List JournalItem) → IsLegal q J → J ≡ past.items ++ since past J
    → (facts : List Fact) → InOrderOfLinesBehind size past lines X J q facts → (block items : ℕ) → ComesBefore block items facts
    → block < blocks J → block < blocks (cut J items)
closed_in_order_behind law q size past lines X J legal begins facts o block items c within =
    each_at (IsClosedThere J items) c.before (digest block c.hash) c.between
    (law q size past lines X J o.rows legal begins o.order (c.before ++ digest block c.hash ∷ c.between) c.after items (sym o.are ∙ c.is))
    within

-- ---- images

-- of each image, where the digests that came before it are of blocks that are closed in it
pub with_earlier_behind : (h : List ℕ → List ℕ) (J : Journal) (past : Past) (G : List Digest) (images : List KeptImage) → Each (IsSavedBehind h J past G) (images ++ last_image h J ∷ [])
    → (facts : List Fact) → ((d : Digest) → In d G → (items : ℕ) → ComesBefore d.block items facts → d.block < blocks (cut J.items items))
    → (k : KeptImage) → In k images → (digests : List HeldDigest) → Each (λ d. IsHeldOfPast h J.database past d ⊎ IsHeldEarlier G k.0 facts d) digests → verdict_of h digests k.1 ≡ Yes
with_earlier_behind h J past G images all facts closed k there digests earlier =
    let saved = each_in (IsSavedBehind h J past G) (images ++ last_image h J ∷ []) k all (in_left k images (last_image h J ∷ []) there) in
    let of_cut = each_weaker (λ d. IsHeldOfPast h J.database past d ⊎ IsHeldEarlier G k.0 facts d) (λ d. IsHeldOfPast h J.database past d ⊎ IsHeldOfRun J.items k.0 G d)
    (λ d e. ⊎_elim (λ (p : IsHeldOfPast h J.database past d). inl p) (λ (r : IsHeldEarlier G k.0 facts d). inr (r.0, (r.1.0, closed r.0 r.1.0 k.0 r.1.1), r.2)) e) digests earlier in
    ap (verdict_of h digests) saved.of_its_part.bytes ∙ (saved.bound digests of_cut).yes

module _ (bound : AreBound) (encodable : AreEncodable) (written : ReadsWritten statement_of) (h : List ℕ → List ℕ) (J : Journal) (past : Past) (G : List Digest)
    (legal : IsLegalJournal statement_of J) (room : FitsImageFormat h statement_of J.database J.items) (begins : J.items ≡ past.items ++ since past J.items) where
  abbrev IsOf : KeptImage → Type 0
  IsOf k = IsWhole h J.database past J.items k

  abbrev Accepts : KeptImage → Type 0
  Accepts k = IsAcceptedBehind h J.database past J.items G k

  is_saved : (k : KeptImage) → IsOf k → Accepts k → IsSavedBehind h J past G k
  is_saved k is accepts = record {
    of_its_part = is.0;
    has_past = is.1;
    bound = λ digests closed. bound h (image_at h J k.0) digests room.hash (cut_is_image encodable written h J legal room k.0)
        (sym (ap (verdict_of h digests) is.0.bytes) ∙ accepts digests closed);
  }

  -- the image of the whole journal is that of the cut of all its items
  whole : image_of h statement_of J.database J.items ≡ image_at h J (length J.items)
  whole = ap (λ (K : List JournalItem). image_of h statement_of J.database K) (sym (take_all (length J.items) J.items (omega arith)))

  is_last : IsOf (last_image h J)
  is_last = (
    record { within = omega arith; bytes = ap image_bytes whole },
    (let n = length-append past.items (since past J.items) in let e : length J.items ≡ length (past.items ++ since past J.items) = ap length begins in omega (arith, n, e)),
  )

  pub all_saved_behind : (kept : List (List KeptImage)) (images : List KeptImage) → AreKept kept images → Each (λ ks. Each IsOf ks) kept → Each (λ ks. Each Accepts ks) kept
      → Accepts (last_image h J) → Each (IsSavedBehind h J past G) (images ++ last_image h J ∷ [])
  all_saved_behind kept images are is accepts last = each_append (IsSavedBehind h J past G) images (last_image h J ∷ [])
      (each_weaker (λ k. Some_of (λ ks. In k ks) kept) (IsSavedBehind h J past G)
      (λ k some. is_saved k (in_some IsOf kept k is some) (in_some Accepts kept k accepts some)) images are.no_others)
      (is_saved (last_image h J) is_last last, tt)
