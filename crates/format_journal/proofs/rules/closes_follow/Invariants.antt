use Rattle.std.proofs.Common.{◌≡◌, ◌≤◌, drop}
use Rattle.sql_types.specs.JournalRules.{closes_follow}
use Rattle.format_journal.proofs.rules.closes_follow.Given as goal

abbrev pub invariant-loop-item : goal.invariant-loop-item
invariant-loop-item l =
    (closes_follow l.pending (drop l.item-index l.items) ≡ closes_follow 0 l.items)
    × (l.pending ≤ l.item-index)
