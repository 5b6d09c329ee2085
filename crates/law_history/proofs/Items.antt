-- Where blocks are closed as in step order, the items stand in the order of the entries that made them.
use Rattle.std.proofs.Common.{◌≡◌, ℕ, suc, ◌+◌, ◌≤◌, Bool, true, false, List, [], ◌∷◌, ◌++◌, length, Option, Some, refl, sym, ap, ◌∙◌, subst, arith, append-nil, append_assoc}
use Rattle.std.specs.Prelude.{◌==◌}
use Rattle.std.proofs.lemmas.Bool.{ne_eqb}
use Rattle.sql_types.specs.declared.journal.JournalItem.{JournalItem}
use Rattle.sql_types.specs.declared.journal.JournalItem.TheVariants.{Tx, Close}
use Rattle.spec_history.specs.Lists.{Text}
use Rattle.spec_history.specs.Meaning.{Meaning}
use Rattle.spec_history.specs.Facts.{Fact}
use Rattle.spec_history.specs.StepOrder.{When, TakesClose, ItemsInOrder}
use Rattle.spec_history.specs.Acts.{commits, issues, keeps, Act, by, closes, shown}
use Rattle.spec_history.specs.Sessions.{SessionTransaction, SessionState}
use Rattle.spec_history.specs.Worlds.{World, item_of, items_by, step, run}
use Rattle.spec_history.specs.Guards.{Good}
use Rattle.spec_history.specs.Histories.{Due, pending, full, digest_next, full_or, ClosesInStep}
use Rattle.law_history.proofs.Order.{facts_in}

-- the items that these acts add
abbrev pub added : World → List Act → List JournalItem
added w [] = []
added w (by s a ∷ es) = items_by (w.at s) a ++ added (step w (by s a)) es
added w (closes k ∷ es) = Close k ∷ added (step w (closes k)) es

pub items_are : (w : World) (es : List Act) → (run w es).items ≡ w.items ++ added w es
items_are w [] = sym (append-nil w.items)
items_are w (by s a ∷ es) = items_are (step w (by s a)) es ∙ append_assoc w.items (items_by (w.at s) a) (added (step w (by s a)) es)
items_are w (closes k ∷ es) = items_are (step w (closes k)) es ∙ append_assoc w.items (Close k ∷ []) (added (step w (closes k)) es)

length_append : (J K : List JournalItem) → length (J ++ K) ≡ length J + length K
length_append [] K = omega arith
length_append (i ∷ J) K = let e = length_append J K in omega arith

closes_map : (k : ℕ) (J : List JournalItem) (P Q : List JournalItem → Type 0) → ((L : List JournalItem) → P L → Q L) → TakesClose k J P → TakesClose k J Q
closes_map k [] P Q f h = h
closes_map k (Tx id session time explicit script ∷ J) P Q f h = h
closes_map k (Close j ∷ J) P Q f h = (h.0, f J h.1)

module _ (q : Meaning) (db : Text) (N : ℕ) where
  moved : (p m n : ℕ) (J : List JournalItem) (gs : List Fact) → m ≡ n → ItemsInOrder N p m J gs → ItemsInOrder N p n J gs
  moved p m n J gs e h = subst (λ (k : ℕ). ItemsInOrder N p k J gs) e h

  -- the claim at each moment
  abbrev Claim : Due → World → List Act → Type 0
  Claim (pending p) w es = ItemsInOrder N p (length w.items) (added w es) (facts_in es)
  Claim full w es = TakesClose N (added w es) (λ L. ItemsInOrder N 0 (length w.items + 1) L (facts_in es))
  Claim digest_next w es = ItemsInOrder N 0 (length w.items) (added w es) (facts_in es)

  -- after a commit
  booked : (p m n : ℕ) (K : List JournalItem) (gs : List Fact) (b : Bool) → n ≡ m + 1 → (w : World) (es : List Act) → added w es ≡ K → facts_in es ≡ gs → length w.items ≡ n → Claim (full_or b (suc p)) w es → When b (TakesClose N K (λ L. ItemsInOrder N 0 (m + 2) L gs)) (ItemsInOrder N (suc p) (m + 1) K gs)
  booked p m n K gs true e w es a f l h = subst (λ (z : List JournalItem × List Fact). TakesClose N z.0 (λ L. ItemsInOrder N 0 (m + 2) L z.1)) (λ k. (a k, f k))
      (closes_map N (added w es) (λ L. ItemsInOrder N 0 (length w.items + 1) L (facts_in es)) (λ L. ItemsInOrder N 0 (m + 2) L (facts_in es)) (λ L i. moved 0 (length w.items + 1) (m + 2) L (facts_in es) (omega arith) i) h)
  booked p m n K gs false e w es a f l h = subst (λ (z : List JournalItem × List Fact). ItemsInOrder N (suc p) (m + 1) z.0 z.1) (λ k. (a k, f k)) (moved (suc p) (length w.items) (m + 1) (added w es) (facts_in es) (l ∙ e) h)

  one_longer : (J : List JournalItem) (x : SessionState) (o : Option SessionTransaction) (d : SessionTransaction) (time : ℕ) → o ≡ Some d → length (J ++ item_of x o time) ≡ length J + 1
  one_longer J x o d time e = ap (λ (z : Option SessionTransaction). length (J ++ item_of x z time)) e ∙ length_append J (item_of x (Some d) time)

  no_longer : (J : List JournalItem) → length (J ++ []) ≡ length J
  no_longer J = ap length (append-nil J)

  -- what is pending is closed for a digest
  closed_for : (p k : ℕ) (w : World) (es : List Act) → Good q db (step w (closes k)) es → k ≡ p → 1 ≤ p → ClosesInStep N digest_next es → Claim digest_next (step w (closes k)) es → Claim (pending p) w (closes k ∷ es)
  closed_for p k w [] g e l c h = absurd c
  closed_for p k w (closes n ∷ es) g e l c h = absurd c
  closed_for p k w (by s (issues d mark) ∷ es) g e l c h = let A : List JournalItem = added (step (step w (closes k)) (by s (issues d mark))) es in
      rw (ne_eqb p 0 (λ z. absurd (omega arith))) (e, moved 0 (length (w.items ++ Close k ∷ [])) (length w.items + 1) A (facts_in es) (length_append w.items (Close k ∷ [])) h)
  closed_for p k w (by s a ∷ es) g e l c h = absurd c

  digest_at : (p : ℕ) (w : World) (gs : List Fact) (A : List JournalItem) → p ≡ 0 → ItemsInOrder N 0 (length w.items) A gs → When (p == 0) (ItemsInOrder N 0 (length w.items) A gs) (TakesClose p A (λ K. ItemsInOrder N 0 (length w.items + 1) K gs))
  digest_at p w gs A e h = rw e h

  pub items_run : (due : Due) (w : World) (es : List Act) → Good q db w es → ClosesInStep N due es → Claim due w es
  items_run (pending p) w [] g c = refl
  items_run (pending p) w (closes k ∷ es) g c = closed_for p k w es g.1 c.0 c.1 c.2 (items_run digest_next (step w (closes k)) es g.1 c.2)
  items_run (pending p) w (by s (commits time place) ∷ es) g c = let v : World = step w (by s (commits time place)) in
      subst (λ (o : Option SessionTransaction). ItemsInOrder N p (length w.items) (item_of (w.at s) o time ++ added v es) (shown (commits time place) ++ facts_in es)) (sym (g.0).stands.has)
      (booked p (length w.items) (length w.items + 1) (added v es) (facts_in es) (suc p == N) refl v es refl refl (one_longer w.items (w.at s) (w.at s).transaction (g.0).mine time (g.0).stands.has) (items_run (full_or (suc p == N) (suc p)) v es g.1 c))
  items_run (pending p) w (by s (issues d mark) ∷ es) g c = let v : World = step w (by s (issues d mark)) in
      digest_at p w (facts_in es) (added v es) c.0 (moved 0 (length (w.items ++ [])) (length w.items) (added v es) (facts_in es) (no_longer w.items) (items_run (pending 0) v es g.1 c.1))
  items_run (pending p) w (by s (keeps items mark) ∷ es) g c = let v : World = step w (by s (keeps items mark)) in
      (g.0.1, moved p (length (w.items ++ [])) (length w.items) (added v es) (facts_in es) (no_longer w.items) (items_run (pending p) v es g.1 c))
  items_run (pending p) w (by s a ∷ es) g c = moved p (length (w.items ++ [])) (length w.items) (added (step w (by s a)) es) (facts_in es) (no_longer w.items) (items_run (pending p) (step w (by s a)) es g.1 c)
  items_run full w [] g c = absurd c
  items_run full w (closes k ∷ es) g c = (c.0, moved 0 (length (w.items ++ Close k ∷ [])) (length w.items + 1) (added (step w (closes k)) es) (facts_in es) (length_append w.items (Close k ∷ [])) (items_run (pending 0) (step w (closes k)) es g.1 c.1))
  items_run full w (by s (commits time place) ∷ es) g c = absurd c.0
  items_run full w (by s (issues d mark) ∷ es) g c = absurd c.0
  items_run full w (by s (keeps items mark) ∷ es) g c = absurd c.0
  items_run full w (by s a ∷ es) g c = let v : World = step w (by s a) in closes_map N (added v es) (λ L. ItemsInOrder N 0 (length (w.items ++ []) + 1) L (facts_in es)) (λ L. ItemsInOrder N 0 (length w.items + 1) L (facts_in es))
      (λ L i. moved 0 (length (w.items ++ []) + 1) (length w.items + 1) L (facts_in es) (ap (λ (n : ℕ). n + 1) (no_longer w.items)) i) (items_run full v es g.1 c.1)
  items_run digest_next w [] g c = absurd c
  items_run digest_next w (closes k ∷ es) g c = absurd c
  items_run digest_next w (by s (issues d mark) ∷ es) g c = moved 0 (length (w.items ++ [])) (length w.items) (added (step w (by s (issues d mark))) es) (facts_in es) (no_longer w.items) (items_run (pending 0) (step w (by s (issues d mark))) es g.1 c)
  items_run digest_next w (by s a ∷ es) g c = absurd c
