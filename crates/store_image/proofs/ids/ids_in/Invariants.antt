use Rattle.std.proofs.Common.{◌≡◌, ◌++◌, drop}
use Rattle.spec_history.specs.Journals.{ids_of}
use Rattle.store_image.proofs.ids.ids_in.Given as goal

abbrev pub invariant-loop-item : goal.invariant-loop-item
invariant-loop-item l = l.ids.items ++ ids_of (drop l.item-index l.items) ≡ ids_of l.items
