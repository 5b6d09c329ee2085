use Rattle.std.proofs.Common.{take}
use Rattle.spec_syntax.specs.Text.{reading_of}
use Rattle.audit_replay.specs.Reached.{Reached}
use Rattle.audit_replay.proofs.running.run_again.Given as goal

abbrev pub invariant-loop-place : goal.invariant-loop-place
invariant-loop-place g l = Reached (g.H.Hash32.digest l.fn.h) (reading_of l.fn.version) (take l.place l.items) l.serial_machine l.ledger_chain
