use Rattle.std.proofs.Common.{◌≡◌, ◌++◌, take, flat_map}
use Rattle.format_journal.specs.Journal.{statement_bytes}
use Rattle.format_journal.proofs.writing.put_statements.Given as goal

abbrev pub invariant-loop-text : goal.invariant-loop-text
invariant-loop-text l =
    l.out.items ≡ l.initial.out.items ++ flat_map statement_bytes (take l.text-index l.script)
