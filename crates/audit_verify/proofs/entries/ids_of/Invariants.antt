use Rattle.std.proofs.Common.{◌≡◌, ◌++◌, drop}
use Rattle.audit_verify.specs.Entries.{ids_from}
use Rattle.audit_verify.proofs.entries.ids_of.Given as goal

abbrev pub invariant-loop-k : goal.invariant-loop-k
invariant-loop-k l = l.ids.items ++ ids_from l.k (drop l.k l.entries) ≡ ids_from 0 l.entries
