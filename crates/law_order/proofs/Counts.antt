-- Where marks count, they never fall.
use Rattle.std.proofs.Common.{ℕ, ◌+◌, ◌<◌, ◌≤◌, List, [], ◌∷◌, arith}
use Rattle.sql_types.specs.declared.journal.JournalItem.{JournalItem}
use Rattle.spec_history.specs.Facts.{Fact, began, placed, passed, digest, image, no_digest, mark_of, place_of, Shows}
use Rattle.spec_history.specs.Marks.{MarksRise}
use Rattle.spec_history.specs.StepOrder.{Counted}

module _ (J : List JournalItem) where
  -- marks are no less than a number up to the count, and places are above it
  abbrev From : ℕ → List Fact → Type 0
  From m gs = Shows (mark_of J) (λ k. m ≤ k) gs × Shows place_of (λ k. m < k) gs

  from_count : (m n c : ℕ) (gs : List Fact) → m ≤ c → Counted J n c gs → From m gs
  from_count m n c [] l h = (tt, tt)
  from_count m n c (began id explicit ∷ gs) l h = let r = from_count m (n + 1) c gs l h.1 in ((tt, r.0), (tt, r.1))
  from_count m n c (placed place ∷ gs) l h = let r = from_count m n (c + 1) gs (omega arith) h.1 in let e = h.0 in (((omega arith, tt), r.0), ((omega arith, tt), r.1))
  from_count m n c (passed k back ∷ gs) l h = let r = from_count m n c gs l h.1 in let e = h.0 in (((omega arith, tt), r.0), (tt, r.1))
  from_count m n c (digest b hash ∷ gs) l h = let r = from_count m n c gs l h.2 in let e = h.0 in (((omega arith, tt), r.0), (tt, r.1))
  from_count m n c (image items ∷ gs) l h = let r = from_count m n c gs l h.1 in let e = h.0 in (((omega arith, tt), r.0), (tt, r.1))
  from_count m n c (no_digest ∷ gs) l h = let r = from_count m n c gs l h.1 in ((tt, r.0), (tt, r.1))
  from_count m n c (g ∷ gs) l h = let r = from_count m n c gs l h in ((tt, r.0), (tt, r.1))

  pub never_fall : (n c : ℕ) (gs : List Fact) → Counted J n c gs → MarksRise J gs
  never_fall n c [] h = tt
  never_fall n c (began id explicit ∷ gs) h = (tt, never_fall (n + 1) c gs h.1)
  never_fall n c (placed place ∷ gs) h = let e = h.0 in ((from_count place n (c + 1) gs (omega arith) h.1, tt), never_fall n (c + 1) gs h.1)
  never_fall n c (passed k back ∷ gs) h = let e = h.0 in ((from_count k n c gs (omega arith) h.1, tt), never_fall n c gs h.1)
  never_fall n c (digest b hash ∷ gs) h = let e = h.0 in ((from_count _ n c gs (omega arith) h.2, tt), never_fall n c gs h.2)
  never_fall n c (image items ∷ gs) h = let e = h.0 in ((from_count _ n c gs (omega arith) h.1, tt), never_fall n c gs h.1)
  never_fall n c (no_digest ∷ gs) h = (tt, never_fall n c gs h.1)
  never_fall n c (g ∷ gs) h = (tt, never_fall n c gs h)
