use Rattle.std.proofs.Common.{◌≡◌, ◌++◌, ◌+◌, drop, map}
use Rattle.format_event.specs.Leaf.{event_bytes}
use Rattle.store_catalog.specs.Rows.{starts_of}
use Rattle.store_catalog.proofs.rows.leaves_of.Given as goal

abbrev pub invariant-loop-change : goal.invariant-loop-change
invariant-loop-change l = record {
  at : l.number ≡ l.seq + l.change-index;
  left : l.leaves.items ++ map event_bytes (starts_of l.table l.tx l.number (drop l.change-index l.changes)) ≡ map event_bytes (starts_of l.table l.tx l.seq l.changes);
}
