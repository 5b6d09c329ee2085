-- Visits of the ledger's cell close blocks in step.
use Rattle.std.proofs.Common.{◌≡◌, ℕ, zero, suc, ◌<◌, ◌≤◌, ◌+◌, ◌-◌, Bool, true, false, List, [], ◌∷◌, ◌++◌, map, refl, sym, ap, subst, subst₂, ◌∙◌, arith, length-append}
use Rattle.std.specs.Prelude.{◌==◌, nat_le}
use Rattle.std.proofs.lemmas.Bool.{le-leb, ne_eqb, eq-eqb, leb-true}
use Rattle.sql_types.specs.declared.entry.TxEntry.{TxEntry}
use Rattle.sql_types.specs.declared.journal.JournalItem.{JournalItem}
use Rattle.spec_model.specs.Journals.{Line}
use Rattle.spec_history.specs.Acts.{SessionAct, says, commits, issues, Act, closes}
use Rattle.spec_history.specs.Digests.{Digest}
use Rattle.spec_history.specs.Histories.{Due, pending, full, full_or}
use Rattle.spec_protocol.specs.ActsOf.{closings}
use Rattle.spec_protocol.specs.Cells.{LedgerCell, pending_in}
use Rattle.spec_protocol.specs.AnonymousActs.{did, closed, anonymous_act}
use Rattle.spec_protocol.specs.LedgerVisits.{with_item, closed_by, next_block, all_closed, with_digest}
use Rattle.spec_protocol.specs.Server.{Server}
use Rattle.spec_protocol.proofs.LedgerNumbers.{pending_after}
use Rattle.law_sequential.specs.InStep.{InStep, due_in}

-- ---- what depends on the number of pending entries

pub due_at : (N : ℕ) (c : LedgerCell) (p : ℕ) → pending_in c ≡ p → due_in N c ≡ full_or (p == N) p
due_at N c p e = ap (λ (n : ℕ). full_or (n == N) n) e

pub due_below : (N : ℕ) (c : LedgerCell) → pending_in c < N → due_in N c ≡ pending (pending_in c)
due_below N c l = ap (λ (b : Bool). full_or b (pending_in c)) (ne_eqb (pending_in c) N (λ e. omega (arith, l, e)))

pub due_full : (N : ℕ) (c : LedgerCell) → pending_in c ≡ N → due_in N c ≡ full
due_full N c e = ap (λ (b : Bool). full_or b (pending_in c)) (eq-eqb (pending_in c) N e)

pub due_none : (N : ℕ) (c : LedgerCell) → 1 ≤ N → pending_in c ≡ 0 → due_in N c ≡ pending 0
due_none N c l e = due_below N c (omega (arith, l, e)) ∙ ap pending e

-- ---- a commit

says_first : (N p : ℕ) (ls : List Line) (more : List SessionAct) (then_due : Due) → InStep N (pending p) (map did more) then_due → InStep N (pending p) (map did (map says ls ++ more)) then_due
says_first N p [] more x h = h
says_first N p (l ∷ ls) more x h = says_first N p ls more x h

pub one_pending_more : (entry : TxEntry) (item : JournalItem) (c : LedgerCell) → pending_in (with_item entry item c) ≡ suc (pending_in c)
one_pending_more entry item c = length-append c.chain.pending _ ∙ (let p : pending_in c + 1 ≡ suc (pending_in c) = omega arith in p)

pub commit_in_step : (N : ℕ) (c d : LedgerCell) (entry : TxEntry) (item : JournalItem) (ls : List Line) (time place : ℕ) → pending_in c < N → d ≡ with_item entry item c
    → InStep N (due_in N c) (map did (map says ls ++ commits time place ∷ [])) (due_in N d)
commit_in_step N c d entry item ls time place l is = subst (λ (x : Due). InStep N x (map did (map says ls ++ commits time place ∷ [])) (due_in N d)) (sym (due_below N c l))
    (says_first N (pending_in c) ls (commits time place ∷ []) (due_in N d) (sym (due_at N d (suc (pending_in c)) (ap (λ (x : LedgerCell). pending_in x) is ∙ one_pending_more entry item c))))

-- ---- a closing

next_full : (c : LedgerCell) → c.block_size ≤ pending_in c → next_block c ≡ c.block_size
next_full c l = let e : nat_le c.block_size (pending_in c) ≡ true = le-leb c.block_size (pending_in c) l in rw e refl

next_rest : (c : LedgerCell) → pending_in c < c.block_size → next_block c ≡ pending_in c
next_rest c l = let e : nat_le c.block_size (pending_in c) ≡ false = by (nat_le c.block_size (pending_in c)) refl in rw e refl
  where
    by : (b : Bool) → nat_le c.block_size (pending_in c) ≡ b → nat_le c.block_size (pending_in c) ≡ false
    by true e = absurd (let k = leb-true c.block_size (pending_in c) e in omega (arith, k, l))
    by false e = e

pub close_in_step : (v : Server) (N k : ℕ) (c d : LedgerCell) → 1 ≤ N → c.block_size ≡ N → pending_in c ≡ N → k ≡ next_block c → d ≡ closed_by v.hash k c → InStep N (due_in N c) (closed k ∷ []) (due_in N d)
close_in_step v N k c d some size e next is = subst (λ (x : Due). InStep N x (closed k ∷ []) (due_in N d)) (sym (due_full N c e)) (is_full, sym (due_none N d some none))
  where
    is_full : k ≡ N
    is_full = next ∙ next_full c (omega (arith, size, e)) ∙ size

    none : pending_in d ≡ 0
    none = ap (λ (x : LedgerCell). pending_in x) is ∙ pending_after v k c ∙ (let g : pending_in c - k ≡ 0 = omega (arith, e, is_full) in g)

-- ---- a digest

closings_none : (v : Server) (n : ℕ) (c : LedgerCell) → pending_in c ≡ 0 → closings v n c ≡ []
closings_none v zero c e = refl
closings_none v (suc n) c e = let g : nat_le (pending_in c) 0 ≡ true = le-leb (pending_in c) 0 (omega (arith, e)) in rw g refl

closed_none : (v : Server) (n : ℕ) (c : LedgerCell) → pending_in c ≡ 0 → all_closed v.hash n c ≡ c
closed_none v zero c e = refl
closed_none v (suc n) c e = let g : nat_le (pending_in c) 0 ≡ true = le-leb (pending_in c) 0 (omega (arith, e)) in rw g refl

some_pending : (c : LedgerCell) (n : ℕ) → pending_in c ≡ suc n → nat_le (pending_in c) 0 ≡ false
some_pending c n e = by (nat_le (pending_in c) 0) refl
  where
    by : (b : Bool) → nat_le (pending_in c) 0 ≡ b → nat_le (pending_in c) 0 ≡ false
    by true f = absurd (let k = leb-true (pending_in c) 0 f in omega (arith, k, e))
    by false f = f

module _ (v : Server) (N : ℕ) (c : LedgerCell) (size : c.block_size ≡ N) (below : pending_in c < N) where
  next_is : next_block c ≡ pending_in c
  next_is = next_rest c (omega (arith, size, below))

  abbrev after_one : LedgerCell
  after_one = closed_by v.hash (next_block c) c

  none_then : pending_in after_one ≡ 0
  none_then = pending_after v (next_block c) c ∙ (let g : pending_in c - next_block c ≡ 0 = omega (arith, next_is) in g)

  -- all that is pending is closed as one block
  closings_are : (n : ℕ) → pending_in c ≡ suc n → closings v (suc n) c ≡ closes (next_block c) ∷ []
  closings_are n e = let g = some_pending c n e in rw g (ap (λ (es : List Act). closes (next_block c) ∷ es) (closings_none v n after_one none_then))

  all_closed_is : (n : ℕ) → pending_in c ≡ suc n → all_closed v.hash (suc n) c ≡ after_one
  all_closed_is n e = let g = some_pending c n e in rw g (closed_none v n after_one none_then)

  before_digest : (n : ℕ) → pending_in c ≡ n → (g : Digest) (mark : ℕ) → InStep N (pending n) (map anonymous_act (closings v n c) ++ did (issues g mark) ∷ []) (pending 0)
  before_digest zero e g mark = (refl, refl)
  before_digest (suc n) e g mark = subst (λ (es : List Act). InStep N (pending (suc n)) (map anonymous_act es ++ did (issues g mark) ∷ []) (pending 0)) (sym (closings_are n e)) (next_is ∙ e, omega arith, refl)

  none_left : (n : ℕ) → pending_in c ≡ n → pending_in (all_closed v.hash n c) ≡ 0
  none_left zero e = e
  none_left (suc n) e = ap (λ (x : LedgerCell). pending_in x) (all_closed_is n e) ∙ none_then

  pub issue_in_step : (d : LedgerCell) (g : Digest) (mark : ℕ) → 1 ≤ N → d ≡ with_digest g (all_closed v.hash (pending_in c) c)
      → InStep N (due_in N c) (map anonymous_act (closings v (pending_in c) c) ++ did (issues g mark) ∷ []) (due_in N d)
  issue_in_step d g mark some is = subst₂ (λ (x y : Due). InStep N x (map anonymous_act (closings v (pending_in c) c) ++ did (issues g mark) ∷ []) y)
      (sym (due_below N c below))
      (sym (due_none N d some (ap (λ (x : LedgerCell). pending_in x) is ∙ none_left (pending_in c) refl)))
      (before_digest (pending_in c) refl g mark)
