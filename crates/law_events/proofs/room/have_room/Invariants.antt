use Rattle.std.proofs.Common.{take}
use Rattle.std.specs.List.{AllByRecursion}
use Rattle.law_events.specs.Room.{FitsLeafFormat}
use Rattle.law_events.proofs.room.have_room.Given as goal

abbrev pub invariant-loop-event : goal.invariant-loop-event
invariant-loop-event l = AllByRecursion FitsLeafFormat (take l.event-index l.events)
