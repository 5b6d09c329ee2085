use Rattle.std.proofs.Common.{◌≡◌, [], drop}
use Rattle.sql_types.specs.JournalRules.{ids_differ}
use Rattle.format_journal.proofs.rules.ids_differ.Given as goal

abbrev pub invariant-loop-item : goal.invariant-loop-item
invariant-loop-item l = ids_differ l.before.keys (drop l.item-index l.items) ≡ ids_differ [] l.items
