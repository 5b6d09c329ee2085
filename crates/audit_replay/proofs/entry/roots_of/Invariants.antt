use Rattle.std.proofs.Common.{◌≡◌, take}
use Rattle.spec_ledger.specs.Entries as spec
use Rattle.audit_replay.proofs.entry.roots_of.Given as goal

abbrev pub invariant-loop-table : goal.invariant-loop-table
invariant-loop-table g l = l.roots.items ≡ spec.roots_of (g.H.Hash32.digest l.fn.h) l.id (take l.table-index l.tables)
