use Rattle.std.proofs.Common.{◌≡◌, drop}
use Rattle.spec_syntax.specs.Text.{statement_of}
use Rattle.audit_replay.specs.GoesOn.{end_from}
use Rattle.audit_replay.proofs.past.first_end.Given as goal

abbrev pub invariant-loop-place : goal.invariant-loop-place
invariant-loop-place l = end_from statement_of l.place (drop l.place l.script) ≡ end_from statement_of 0 l.script
