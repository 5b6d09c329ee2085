use Rattle.std.proofs.Common.{take}
use Rattle.std.specs.List.{AllByRecursion}
use Rattle.format_journal.specs.Rules.{IsStatement}
use Rattle.format_journal.proofs.encoded.are_statements.Given as goal

-- so it is of the statements so far
abbrev pub invariant-loop-statement : goal.invariant-loop-statement
invariant-loop-statement l = AllByRecursion IsStatement (take l.statement-index l.script)
