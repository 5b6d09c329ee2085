-- Deeds that close blocks in step: a full block before anything that it has to come before, and what is
-- pending for a digest.
use Rattle.std.specs.Prelude.{ℕ, suc, ◌≡◌, ◌≤◌, ◌<◌, ◌==◌, List, [], ◌∷◌}
use Rattle.spec_history.specs.Acts.{commits, issues}
use Rattle.spec_history.specs.Lists.{Some_of}
use Rattle.spec_history.specs.Histories.{Due, pending, full, digest_next, full_or, WaitsForNone}
use Rattle.spec_protocol.specs.Cells.{LedgerCell, pending_in}
use Rattle.spec_protocol.specs.AnonymousActs.{AnonymousAct, did, closed}
use Rattle.spec_protocol.specs.Visits.{Visit, close, commit, issue, keep}

-- Blocks of N entries are closed so. In this order: what the next closing depends on before these deeds, and
-- on what it depends behind them.
abbrev pub InStep : ℕ → Due → List AnonymousAct → Due → Type 0
InStep N due [] then_due = due ≡ then_due
InStep N (pending p) (closed k ∷ ds) then_due = (k ≡ p) × (1 ≤ p) × InStep N digest_next ds then_due
InStep N (pending p) (did (commits time place) ∷ ds) then_due =
    InStep N (full_or (suc p == N) (suc p)) ds then_due
InStep N (pending p) (did (issues d mark) ∷ ds) then_due = (p ≡ 0) × InStep N (pending 0) ds then_due
InStep N (pending p) (did a ∷ ds) then_due = InStep N (pending p) ds then_due
InStep N full (closed k ∷ ds) then_due = (k ≡ N) × InStep N (pending 0) ds then_due
InStep N full (did a ∷ ds) then_due = WaitsForNone a × InStep N full ds then_due
InStep N digest_next (did (issues d mark) ∷ ds) then_due = InStep N (pending 0) ds then_due
InStep N digest_next _ then_due = ⊥

-- on what the next closing depends, by the ledger's cell
abbrev pub due_in : ℕ → LedgerCell → Due
due_in N c = full_or (pending_in c == N) (pending_in c)

-- A visit closes a block by itself only where one is full, and where one is full nothing comes before its
-- closing that has to wait for it.
abbrev pub Waits : ℕ → LedgerCell → Visit → Type 0
Waits N c (close k) = pending_in c ≡ N
Waits N c (commit time) = pending_in c < N
Waits N c (issue moment) = pending_in c < N
Waits N c keep = pending_in c < N
Waits N c _ = Unit {0}

abbrev pub IsClosing : AnonymousAct → Type 0
IsClosing (closed k) = Unit {0}
IsClosing _ = ⊥

abbrev pub IsIssue : AnonymousAct → Type 0
IsIssue (did (issues d mark)) = Unit {0}
IsIssue _ = ⊥

-- where a block is closed, a digest is issued
abbrev pub ClosesForDigest : List AnonymousAct → Type 0
ClosesForDigest ds = Some_of IsClosing ds → Some_of IsIssue ds
