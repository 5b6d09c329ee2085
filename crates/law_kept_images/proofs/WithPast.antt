-- Images of a run behind a past are accepted with digests of the past and of the run.
use Rattle.std.proofs.Common.{◌≡◌, ◌⊎◌, ◌<◌, ◌≤◌, ℕ, zero, suc, List, [], ◌∷◌, ◌++◌, length, map, flat_map, refl, sym, ap, subst, ◌∙◌, append_assoc, length-append, inl, inr, ⊎_elim, arith}
use Rattle.std.proofs.lemmas.List.{take_all}
use Rattle.sql_types.specs.declared.digest.Digest.{Digest}
use Rattle.sql_types.specs.declared.digest.HeldDigest.{HeldDigest}
use Rattle.sql_types.specs.declared.journal.JournalItem.{JournalItem}
use Rattle.sql_types.specs.declared.journal.JournalItem.TheVariants.{Tx, Close}
use Rattle.spec_model.specs.Journals.{cut}
use Rattle.spec_history.specs.Digests.{IsDigest}
use Rattle.spec_history.specs.Facts.{Fact, began, said, failed, met, placed, passed, over, digest, image, no_digest, facts_of}
use Rattle.spec_history.specs.Inputs.{InputLine}
use Rattle.spec_history.specs.Journals.{blocks}
use Rattle.spec_history.specs.Lists.{Text, Each, At, In}
use Rattle.spec_history.specs.Meaning.{Meaning}
use Rattle.spec_history.specs.Transcripts.{Transcript}
use Rattle.spec_history.proofs.Trace.{each_weaker}
use Rattle.spec_syntax.specs.Text.{statement_of}
use Rattle.format_image.specs.Image.{image_of}
use Rattle.format_image.specs.ImageBytes.{image_bytes}
use Rattle.spec_ledger.specs.Ledger.{block_hash}
use Rattle.spec_verify.specs.declared.place.Verdict.TheVariants.{Yes}
use Rattle.spec_verify.specs.Bytes.{verdict_of}
use Rattle.law_accepts.specs.Held.{held, IsHeld, AllHeld}
use Rattle.spec_protocol.specs.AtTheEnd.{image_items}
use Rattle.spec_protocol.specs.Seats.{KeptImage}
use Rattle.law_behind.specs.AgreeBehind.{HasItems}
use Rattle.law_behind.specs.Past.{Past, since}
use Rattle.law_sequential.specs.SessionOutput.{IsMeaning, IsImageOf}
use Rattle.law_sequential.specs.OutcomeBehind.{RunAgreesBehind}
use Rattle.law_sequential.proofs.SessionOutput.{some_meaning}
use Rattle.law_kept_images.specs.Accepted.{IsOfCut}
use Rattle.law_kept_images.specs.AcceptedBehind.{IsAcceptedBehind, IsHeldOfPast, IsHeldOfRun}
use Rattle.law_kept_images.proofs.Accepts.{Held, Verifies, each_in}
use Rattle.law_kept_images.proofs.Closed.{digests_are_closed}

-- a meaning that statements have
pub some_real : (h : List ℕ → List ℕ) → (q : Meaning) × IsMeaning h statement_of q
some_real h = some_meaning h statement_of

-- ---- what is held of a journal is held of a longer one

blocks_front : (P K : List JournalItem) (m : ℕ) → length P ≤ m → blocks P ≤ blocks (cut (P ++ K) m)
blocks_front [] K m l = omega arith
blocks_front (i ∷ P) K zero l = absurd (omega (arith, l))
blocks_front (Tx id session time explicit lines ∷ P) K (suc m) l = blocks_front P K m (omega (arith, l))
blocks_front (Close k ∷ P) K (suc m) l = let rest = blocks_front P K m (omega (arith, l)) in omega (arith, rest)

front_cut : (P K : List JournalItem) (m : ℕ) → length P ≤ m → (L : List JournalItem) × (cut (P ++ K) m ≡ P ++ L)
front_cut [] K m l = (cut K m, refl)
front_cut (i ∷ P) K zero l = absurd (omega (arith, l))
front_cut (i ∷ P) K (suc m) l = let r = front_cut P K m (omega (arith, l)) in (r.0, ap (λ (is : List JournalItem). i ∷ is) r.1)

module _ (h : List ℕ → List ℕ) (database : Text) where
  abbrev q : Meaning
  q = (some_meaning h statement_of).0

  hashes : (K : List JournalItem) (b : ℕ) → q.block_hash K b ≡ block_hash h statement_of K b
  hashes K b = let real = (some_meaning h statement_of).1 in real.real.block_hash K b ∙ real.hashes K b

  held_later : (P K : List JournalItem) (d : HeldDigest) → IsHeld h statement_of database P d → IsHeld h statement_of database (P ++ K) d
  held_later P K d is = record {
    of = is.of;
    closed = let more = blocks_front P K (length (P ++ K)) (let l = length-append P K in omega (arith, l)) in let less = is.closed in
        let all : cut (P ++ K) (length (P ++ K)) ≡ P ++ K = take_all (length (P ++ K)) (P ++ K) (omega arith) in
        let same : blocks (cut (P ++ K) (length (P ++ K))) ≡ blocks (P ++ K) = ap blocks all in omega (arith, more, less, same);
    hash = is.hash ∙ sym (hashes P d.block) ∙ sym (q.hash_stays P K d.block is.closed) ∙ hashes (P ++ K) d.block;
  }

  -- a digest of the past, in an image that has all of the past
  pub held_of_past : (past : Past) (J : List JournalItem) (m : ℕ) → J ≡ past.items ++ since past J → length past.items ≤ m → (d : HeldDigest) → IsHeldOfPast h database past d → IsHeld h statement_of database (cut J m) d
  held_of_past past J m begins within d p =
      let whole : J ≡ p.front ++ (p.rest ++ since past J) = begins ∙ ap (λ (is : List JournalItem). is ++ since past J) p.begins ∙ append_assoc p.front p.rest (since past J) in
      let long = length-append p.front p.rest in
      let same : length past.items ≡ length (p.front ++ p.rest) = ap length p.begins in
      let r = front_cut p.front (p.rest ++ since past J) m (omega (arith, long, same, within)) in
      subst (λ (K : List JournalItem). IsHeld h statement_of database K d) (sym (ap (λ (K : List JournalItem). cut K m) whole ∙ r.1)) (held_later p.front r.0 d p.is)

-- ---- each image has all items of the past

each_items : (n : ℕ) (gs : List Fact) → Each (HasItems n) gs → Each (λ m. n ≤ m) (flat_map image_items gs)
each_items n [] h = tt
each_items n (image items ∷ gs) h = (h.0, each_items n gs h.1)
each_items n (began id explicit ∷ gs) h = each_items n gs h.1
each_items n (said line ∷ gs) h = each_items n gs h.1
each_items n (failed text ∷ gs) h = each_items n gs h.1
each_items n (met text holder ∷ gs) h = each_items n gs h.1
each_items n (placed place ∷ gs) h = each_items n gs h.1
each_items n (passed k back ∷ gs) h = each_items n gs h.1
each_items n (over ∷ gs) h = each_items n gs h.1
each_items n (digest b hash ∷ gs) h = each_items n gs h.1
each_items n (no_digest ∷ gs) h = each_items n gs h.1

pub numbers_have : (n : ℕ) (ks : List KeptImage) → Each (λ m. n ≤ m) (map (λ k. k.0) ks) → Each (λ k. n ≤ k.0) ks
numbers_have n [] h = tt
numbers_have n (k ∷ ks) h = (h.0, numbers_have n ks h.1)

abbrev numbers : List KeptImage → List ℕ
numbers ks = map (λ k. k.0) ks

pub all_have : (q : Meaning) (n : ℕ) (images : List (List KeptImage)) (X : List Transcript) → map numbers images ≡ map (λ x. flat_map image_items (facts_of q x)) X
    → ((i : ℕ) (x : Transcript) → At X i x → Each (HasItems n) (facts_of q x)) → Each (λ kept. Each (λ k. n ≤ k.0) kept) images
all_have q n [] X same has = tt
all_have q n (ks ∷ images) [] same has = let e : numbers ks ∷ map numbers images ≡ [] = same in absurd (let g : ⊥ = cc in g)
all_have q n (ks ∷ images) (x ∷ X) same has =
    let e : numbers ks ∷ map numbers images ≡ flat_map image_items (facts_of q x) ∷ map (λ y. flat_map image_items (facts_of q y)) X = same in
    let first : numbers ks ≡ flat_map image_items (facts_of q x) = cc in
    let rest : map numbers images ≡ map (λ y. flat_map image_items (facts_of q y)) X = cc in (
      numbers_have n ks (subst (Each (λ m. n ≤ m)) (sym first) (each_items n (facts_of q x) (has 0 x refl))),
      all_have q n images X rest (λ i y a. has (suc i) y a),
    )

both : {A : Type 0} (P Q : A → Type 0) (xs : List A) → Each P xs → Each Q xs → Each (λ x. P x × Q x) xs
both P Q [] p q = tt
both P Q (x ∷ xs) p q = ((p.0, q.0), both P Q xs p.1 q.1)

pub both_each : {A : Type 0} (P Q : A → Type 0) (lists : List (List A)) → Each (λ xs. Each P xs) lists → Each (λ xs. Each Q xs) lists → Each (λ xs. Each (λ x. P x × Q x) xs) lists
both_each P Q [] p q = tt
both_each P Q (xs ∷ lists) p q = (both P Q xs p.0 q.0, both_each P Q lists p.1 q.1)

-- ---- digests of the run

pub of_run_held : (h : List ℕ → List ℕ) (database : Text) (J : List JournalItem) (G : List Digest) (m : ℕ) → ((d : Digest) → IsOfCut J m G d → IsHeld h statement_of database (cut J m) (held d)) → (d : HeldDigest) → IsHeldOfRun J m G d → IsHeld h statement_of database (cut J m) d
of_run_held h database J G m one d r = subst (IsHeld h statement_of database (cut J m)) r.2 (one r.0 r.1)

pub each_held : (h : List ℕ → List ℕ) (database : Text) (past : Past) (J : List JournalItem) (G : List Digest) (m : ℕ) → J ≡ past.items ++ since past J → length past.items ≤ m
    → ((d : Digest) → IsOfCut J m G d → IsHeld h statement_of database (cut J m) (held d))
    → (digests : List HeldDigest) → Each (λ d. IsHeldOfPast h database past d ⊎ IsHeldOfRun J m G d) digests → AllHeld h statement_of database (cut J m) digests
each_held h database past J G m begins within one digests all = each_weaker (λ d. IsHeldOfPast h database past d ⊎ IsHeldOfRun J m G d) (IsHeld h statement_of database (cut J m))
    (λ d e. ⊎_elim (λ (p : IsHeldOfPast h database past d). held_of_past h database past J m begins within d p) (λ (r : IsHeldOfRun J m G d). of_run_held h database J G m one d r) e) digests all

-- ---- the images of a run

-- the image of the whole journal is that of the cut of all its items
pub whole_image : (h : List ℕ → List ℕ) (database : Text) (J : List JournalItem) → IsImageOf h statement_of database J (length J, image_bytes (image_of h statement_of database J))
whole_image h database J = record {
  within = omega arith;
  bytes = ap (λ (K : List JournalItem). image_bytes (image_of h statement_of database K)) (sym (take_all (length J) J (omega arith)));
}

-- an image of a part of the journal that has all items of the past
abbrev pub IsWhole : (List ℕ → List ℕ) → Text → Past → List JournalItem → KeptImage → Type 0
IsWhole h database past J k = IsImageOf h statement_of database J k × (length past.items ≤ k.0)

module _ (h : List ℕ → List ℕ) (database : Text) (size : ℕ) (past : Past) (names : List Text) (lines : List InputLine) (X : List Transcript) (images : List (List KeptImage)) (J : List JournalItem) (G : List Digest)
    (run : RunAgreesBehind h statement_of database size past names lines X images J G) where
  abbrev p : Meaning
  p = (some_meaning h statement_of).0

  abbrev real : IsMeaning h statement_of p
  real = (some_meaning h statement_of).1

  begins : J ≡ past.items ++ since past J
  begins = (run.agree p real).journal_goes_on.begins

  digests_are : Each (IsDigest p database J) G
  digests_are = (run.agree p real).digests_are_the_journals.each

  pub are_whole : Each (λ kept. Each (IsWhole h database past J) kept) images
  are_whole = both_each (IsImageOf h statement_of database J) (λ k. length past.items ≤ k.0) images run.are_images
      (all_have p (length past.items) images X (run.shown p real) (run.agree p real).past_counts.images)

  closed_in_cut : (d : Digest) → In d G → IsOfCut J (length J) G d
  closed_in_cut d i = (
    i,
    subst (λ (K : List JournalItem). d.block < blocks K) (sym (take_all (length J) J (omega arith)))
        (digests_are_closed p database X J G (run.agree p real).digests_are_the_journals d i),
  )

  each_closed : (H : List Digest) → ((d : Digest) → In d H → In d G) → Each (IsOfCut J (length J) G) H
  each_closed [] within = tt
  each_closed (d ∷ H) within = (closed_in_cut d (within d (inl refl)), each_closed H (λ e i. within e (inr i)))

  pub all_closed : Each (IsOfCut J (length J) G) G
  all_closed = each_closed G (λ d i. i)

  all_of_run : (H : List Digest) → ((d : Digest) → In d H → In d G) → Each (λ d. IsHeldOfPast h database past d ⊎ IsHeldOfRun J (length J) G d) (map held H)
  all_of_run [] within = tt
  all_of_run (d ∷ H) within = (inr (d, closed_in_cut d (within d (inl refl)), refl), all_of_run H (λ e i. within e (inr i)))

  module _ (holds : Held h database J) where
    one_held : (m : ℕ) (d : Digest) → IsOfCut J m G d → IsHeld h statement_of database (cut J m) (held d)
    one_held m d e = holds p m d (λ K b. real.real.block_hash K b ∙ real.hashes K b) (each_in (IsDigest p database J) G d digests_are e.0) e.1

    pub accepted : (k : KeptImage) → IsWhole h database past J k → Verifies h database J k.0 → IsAcceptedBehind h database past J G k
    accepted k is verify digests all = ap (verdict_of h digests) is.0.bytes ∙ verify digests (each_held h database past J G k.0 begins is.1 (one_held k.0) digests all)

    -- the image of the whole journal
    pub whole_accepted : Verifies h database J (length J) → IsAcceptedBehind h database past J G (length J, image_bytes (image_of h statement_of database J))
    whole_accepted verify = accepted (length J, image_bytes (image_of h statement_of database J))
        (whole_image h database J, (let l = length-append past.items (since past J) in let e : length J ≡ length (past.items ++ since past J) = ap length begins in omega (arith, l, e))) verify

    -- with all digests of the run
    pub all_accepted : Verifies h database J (length J) → verdict_of h (map held G) (image_bytes (image_of h statement_of database J)) ≡ Yes
    all_accepted verify = whole_accepted verify (map held G) (all_of_run G (λ d i. i))
