-- The digests of a run are of blocks that are closed in its journal.
use Rattle.std.proofs.Common.{◌≡◌, ◌<◌, ◌≤◌, ◌+◌, ◌==◌, ◌⊎◌, ℕ, zero, suc, Bool, true, false, List, [], ◌∷◌, map, None, refl, sym, subst, arith, inl, inr, ⊎_elim}
use Rattle.std.proofs.lemmas.Bool.Decides.{nat_tests}
use Rattle.sql_types.specs.declared.digest.Digest.{Digest}
use Rattle.sql_types.specs.declared.journal.JournalItem.{JournalItem}
use Rattle.spec_history.specs.Agree.{ShowsHash, DigestsAreOf}
use Rattle.spec_history.specs.Digests.{one_if, of_block, shows_block, replies_of_block}
use Rattle.spec_history.specs.Facts.{Fact, began, said, failed, met, placed, passed, over, digest, image, no_digest, facts_of}
use Rattle.spec_history.specs.Journals.{blocks}
use Rattle.spec_history.specs.Lists.{Text, Each, At, In, sum}
use Rattle.spec_history.specs.Meaning.{Meaning}
use Rattle.spec_history.specs.Transcripts.{Transcript}

one_of : (m n : ℕ) → 1 ≤ m + n → (1 ≤ m) ⊎ (1 ≤ n)
one_of zero n less = inr (omega (arith, less))
one_of (suc m) n less = inl (omega arith)

none : 1 ≤ 0 → ⊥
none less = omega (arith, less)

module _ (q : Meaning) (J : List JournalItem) (b : ℕ) where
  shown_digest : (block : ℕ) → block < blocks J → (t : Bool) → (block == b) ≡ t → 1 ≤ one_if t → b < blocks J
  shown_digest block below true e less = let same : block ≡ b = grind (arith, nat_tests, e) in subst (λ n. n < blocks J) same below
  shown_digest block below false e less = absurd (none less)

  -- a fact that shows a digest of the block
  shown_one : (g : Fact) → ShowsHash q J g → 1 ≤ shows_block b g → b < blocks J
  shown_one (began id explicit) s less = absurd (none less)
  shown_one (said line) s less = absurd (none less)
  shown_one (failed text) s less = absurd (none less)
  shown_one (met text holder) s less = absurd (none less)
  shown_one (placed place) s less = absurd (none less)
  shown_one (passed n back) s less = absurd (none less)
  shown_one over s less = absurd (none less)
  shown_one (digest block hash) s less = shown_digest block s.0 (block == b) refl less
  shown_one (image items) s less = absurd (none less)
  shown_one no_digest s less = absurd (none less)

  replied : (gs : List Fact) → Each (ShowsHash q J) gs → 1 ≤ replies_of_block b gs → b < blocks J
  replied [] e less = absurd (none less)
  replied (g ∷ gs) e less = ⊎_elim (λ l. shown_one g e.0 l) (λ l. replied gs e.1 l) (one_of (shows_block b g) (replies_of_block b gs) less)

  -- some transcript has such a reply
  someone : (X : List Transcript) → ((i : ℕ) (x : Transcript) → At X i x → Each (ShowsHash q J) (facts_of q x)) → 1 ≤ sum (map (λ x. replies_of_block b (facts_of q x)) X) → b < blocks J
  someone [] shown less = absurd (none less)
  someone (x ∷ X) shown less = ⊎_elim
      (λ l. replied (facts_of q x) (shown 0 x refl) l)
      (λ l. someone X (λ i y at. shown (suc i) y at) l)
      (one_of (replies_of_block b (facts_of q x)) (sum (map (λ y. replies_of_block b (facts_of q y)) X)) less)

same_block : (d : Digest) → (d.block == d.block) ≡ true
same_block d = grind (arith, nat_tests)

counted : (d : Digest) (G : List Digest) → In d G → 1 ≤ of_block d.block G
counted d [] i = absurd i
counted d (e ∷ G) i = ⊎_elim
    (λ (same : e ≡ d). subst (λ (x : Digest). 1 ≤ one_if (x.block == d.block) + of_block d.block G) (sym same) (rw (same_block d) (omega arith)))
    (λ j. let rest = counted d G j in omega (arith, rest))
    i

pub digests_are_closed : (q : Meaning) (database : Text) (X : List Transcript) (J : List JournalItem) (G : List Digest) → DigestsAreOf q database None X J G → (d : Digest) → In d G → d.block < blocks J
digests_are_closed q database X J G are d i =
    let some = counted d G i in
    let as_many = are.as_many d.block in
    someone q J d.block X are.shown (subst (λ n. 1 ≤ n) as_many some)
