-- The places of a transcript's committed transactions are marks that it shows.
use Rattle.std.proofs.Common.{ℕ, Bool, true, false, List, [], ◌∷◌, ◌++◌, Option, Some, None, subst, sym}
use Rattle.sql_types.specs.declared.journal.JournalItem.{JournalItem}
use Rattle.spec_history.specs.Lists.{Each}
use Rattle.spec_history.specs.Agree.{Placed, committed_at_place, committed_ones}
use Rattle.spec_history.specs.Facts.{Fact, began, said, failed, met, placed, passed, over, mark_of, Shows}
use Rattle.spec_history.specs.Transactions.{End, unfixed, committed, ended, Transaction, TransactionLog, on_some, listed, adds_line, adds_answer, open_by, past_by, read_facts, blank, transactions}
use Rattle.spec_history.proofs.Trace.{each_append}
use Rattle.law_workload.proofs.Entries.{ones_append}

module _ (J : List JournalItem) (P : ℕ → Type 0) where
  abbrev pub AreAt : List Placed → Type 0
  AreAt ps = Each (λ p. P p.place) ps

  pub both_at : (ts us : List Transaction) → AreAt (committed_ones ts) → AreAt (committed_ones us) → AreAt (committed_ones (ts ++ us))
  both_at ts us h k = subst AreAt (sym (ones_append ts us)) (each_append (λ (p : Placed). P p.place) (committed_ones ts) (committed_ones us) h k)

  same_place : (u v : Transaction) (e : End) → AreAt (committed_at_place u e ++ []) → AreAt (committed_at_place v e ++ [])
  same_place u v unfixed h = tt
  same_place u v (committed n) h = h
  same_place u v (ended n back) h = tt

  -- what leaves the end leaves the place
  same_end : (f : Transaction → Transaction) → ((u : Transaction) → AreAt (committed_ones (u ∷ [])) → AreAt (committed_ones (f u ∷ []))) → (o : Option Transaction)
      → AreAt (committed_ones (listed o)) → AreAt (committed_ones (listed (on_some f o)))
  same_end f same None h = tt
  same_end f same (Some u) h = same u h

  placed_at : (place : ℕ) (o : Option Transaction) → P place → AreAt (committed_ones (listed (open_by o (placed place))))
  placed_at place None h = tt
  placed_at place (Some u) h = (h, tt)

  passed_at : (n : ℕ) (back : Bool) (o : Option Transaction) → AreAt (committed_ones (listed (open_by o (passed n back))))
  passed_at n back None = tt
  passed_at n back (Some u) = tt

  open_at : (o : Option Transaction) (g : Fact) → Each P (mark_of J g) → AreAt (committed_ones (listed o)) → AreAt (committed_ones (listed (open_by o g)))
  open_at o (began id explicit) m h = tt
  open_at o (said line) m h = same_end (adds_line line) (λ u k. same_place u (adds_line line u) u.end k) o h
  open_at o (failed text) m h = same_end (adds_answer text true) (λ u k. same_place u (adds_answer text true u) u.end k) o h
  open_at o (met text holder) m h = same_end (adds_answer text false) (λ u k. same_place u (adds_answer text false u) u.end k) o h
  open_at o (placed place) m h = placed_at place o m.0
  open_at o (passed n back) m h = passed_at n back o
  open_at o over m h = tt
  open_at o g m h = h

  past_at : (o : Option Transaction) (ts : List Transaction) (g : Fact) → AreAt (committed_ones (listed o)) → AreAt (committed_ones ts) → AreAt (committed_ones (past_by o ts g))
  past_at o ts over h k = both_at ts (listed o) k h
  past_at o ts g h k = k

  read_at : (b : TransactionLog) (gs : List Fact) → Shows (mark_of J) P gs → AreAt (committed_ones b.past) → AreAt (committed_ones (listed b.open_one))
      → AreAt (committed_ones ((read_facts b gs).past ++ listed (read_facts b gs).open_one))
  read_at b [] s h k = both_at b.past (listed b.open_one) h k
  read_at b (g ∷ gs) s h k =
      read_at (record { open_one = open_by b.open_one g; past = past_by b.open_one b.past g }) gs s.1 (past_at b.open_one b.past g k h) (open_at b.open_one g s.0 k)

  pub committed_at_marks : (gs : List Fact) → Shows (mark_of J) P gs → AreAt (committed_ones (transactions gs))
  committed_at_marks gs s = read_at blank gs s tt tt
