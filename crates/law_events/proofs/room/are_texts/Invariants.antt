use Rattle.std.proofs.Common.{take}
use Rattle.law_events.specs.Room.{AreTexts}
use Rattle.law_events.proofs.room.are_texts.Given as goal

abbrev pub invariant-loop-column : goal.invariant-loop-column
invariant-loop-column l = AreTexts (take l.column-index l.columns)
