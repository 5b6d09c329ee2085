use Rattle.std.proofs.Common.{ℕ, ◌≡◌, drop}
use Rattle.sql_types.specs.declared.entry.TxEntry.{TxEntry}
use Rattle.spec_verify.specs.First.{first, first_from}
use Rattle.audit_roots.specs.Roots.{fault_of, run_in}
use Rattle.audit_roots.proofs.roots.first_fault.Given as goal

abbrev pub invariant-loop-entry : goal.invariant-loop-entry
invariant-loop-entry g l =
    let found = λ (k : ℕ) (e : TxEntry). fault_of (g.H.Hash32.digest l.fn.hasher) (run_in e.id l.marks) e in
    first_from found l.entry-index (drop l.entry-index l.entries) ≡ first found l.entries
