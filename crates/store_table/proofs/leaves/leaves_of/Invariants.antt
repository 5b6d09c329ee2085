use Rattle.std.proofs.Common.{◌≡◌, ◌++◌, ◌+◌, drop, map}
use Rattle.format_event.specs.Leaf.{event_bytes}
use Rattle.store_table.specs.Made.{events_made}
use Rattle.store_table.proofs.leaves.leaves_of.Given as goal

abbrev pub invariant-loop-place : goal.invariant-loop-place
invariant-loop-place l =
    l.leaves.items ++ map event_bytes (events_made l.table l.tx (l.seq + l.place) (drop l.place l.changes) l.versions)
    ≡ map event_bytes (events_made l.table l.tx l.seq l.changes l.versions)
