use Rattle.std.proofs.Common.{◌≡◌, map, take}
use Rattle.server_session.specs.Sits.{line_of}
use Rattle.server_visit_ledger.proofs.ledger_commit.lines_of.Given as goal

abbrev pub invariant-loop-statement : goal.invariant-loop-statement
invariant-loop-statement l = l.lines.items ≡ map line_of (take l.statement-index l.said)
