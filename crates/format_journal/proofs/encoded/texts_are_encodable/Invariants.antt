use Rattle.std.proofs.Common.{take}
use Rattle.std.specs.List.{AllByRecursion}
use Rattle.format_journal.specs.Rules.{HasTexts}
use Rattle.format_journal.proofs.encoded.texts_are_encodable.Given as goal

-- so it is of the items so far
abbrev pub invariant-loop-item : goal.invariant-loop-item
invariant-loop-item l = AllByRecursion HasTexts (take l.item-index l.items)
