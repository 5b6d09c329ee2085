use Rattle.std.proofs.Common.{take}
use Rattle.std.specs.List.{AllByRecursion}
use Rattle.format_event.specs.TypedBytes.{IsUtf8Text}
use Rattle.law_events.proofs.room.are_utf8_texts.Given as goal

abbrev pub invariant-loop-value : goal.invariant-loop-value
invariant-loop-value l = AllByRecursion IsUtf8Text (take l.value-index l.values)
