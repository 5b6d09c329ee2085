use Rattle.std.proofs.Common.{ℕ, ◌≡◌, ◌+◌, ◌-◌, map, take, drop}
use Rattle.sql_types.specs.declared.entry.TxEntry.{TxEntry}
use Rattle.spec_verify.specs.First.{first_from}
use Rattle.spec_verify.specs.Groups.{found_at}
use Rattle.audit_roots.specs.ImageTable.{table_of}
use Rattle.audit_roots.specs.WrongRoots.{wrong_by_marks, wrong_part}
use Rattle.audit_roots.proofs.groups.wrong_root.Given as goal

abbrev pub invariant-loop-k : goal.invariant-loop-k
invariant-loop-k g l =
    let h = g.H.Hash32.digest l.fn.hasher in
    let found = λ (k : ℕ) (e : TxEntry). found_at k (wrong_by_marks h (map table_of l.tables) l.marks e) in
    first_from found l.k (take (l.fn.from + l.fn.count - l.k) (drop l.k l.entries))
    ≡ wrong_part h (map table_of l.tables) l.marks l.entries l.fn.from l.fn.count
