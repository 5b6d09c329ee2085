use Rattle.std.proofs.Common.{take}
use Rattle.spec_syntax.specs.Text.{statement_of}
use Rattle.audit_replay.specs.GoesOn.{NoneEndsInside}
use Rattle.audit_replay.proofs.past.may_go_on.Given as goal

abbrev pub invariant-loop-place : goal.invariant-loop-place
invariant-loop-place l = NoneEndsInside statement_of (take l.place l.items)
