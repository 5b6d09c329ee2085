use Rattle.std.proofs.Common.{ℕ, ◌≡◌, drop, map}
use Rattle.sql_types.specs.declared.entry.TxEntry.{TxEntry}
use Rattle.spec_verify.specs.First.{first, first_from}
use Rattle.spec_verify.specs.Groups.{found_at}
use Rattle.audit_roots.specs.Groups.{left_of}
use Rattle.audit_roots.specs.ImageTable.{table_of}
use Rattle.audit_roots.proofs.leftover.first_left.Given as goal

abbrev pub invariant-loop-k : goal.invariant-loop-k
invariant-loop-k l =
    let found = λ (k : ℕ) (e : TxEntry). found_at k (left_of (map table_of l.tables) e) in
    first_from found l.k (drop l.k l.entries) ≡ first found l.entries
