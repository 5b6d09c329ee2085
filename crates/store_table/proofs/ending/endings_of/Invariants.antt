use Rattle.std.proofs.Common.{◌≡◌, ◌≤◌, length, take}
use Rattle.std.specs.Prelude.{vec_capacity}
use Rattle.store_table.specs.Ends.{endings_of}
use Rattle.store_table.proofs.ending.endings_of.Given as goal

abbrev pub invariant-loop-version : goal.invariant-loop-version
invariant-loop-version l = (l.ends.items ≡ endings_of (take l.version-index l.versions)) × (length l.versions ≤ vec_capacity l.ends)
