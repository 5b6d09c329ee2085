use Rattle.std.proofs.Common.{take, map}
use Rattle.format_event.specs.Leaf.{event_bytes}
use Rattle.base_merkle.specs.Holds.{Holds}
use Rattle.audit_replay.proofs.entry.root_of.Given as goal

abbrev pub invariant-loop-event : goal.invariant-loop-event
invariant-loop-event g l = Holds g.H.Hash32.digest l.fn.h l.tree (map event_bytes (take l.event-index l.events))
