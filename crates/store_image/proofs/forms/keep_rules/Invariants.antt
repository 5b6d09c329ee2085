use Rattle.std.proofs.Common.{take}
use Rattle.std.specs.List.{AllByRecursion}
use Rattle.sql_types.specs.JournalRules.{ItemRules}
use Rattle.store_image.proofs.forms.keep_rules.Given as goal

abbrev pub invariant-loop-item : goal.invariant-loop-item
invariant-loop-item l = AllByRecursion ItemRules (take l.item-index l.items)
