use Rattle.server_engine.specs.CoreInput.{CoreInput}
use Rattle.server_engine.specs.IsMidway.{ChangesSession, GoesOn, WentOn, work}
use Rattle.server_engine.proofs.one_thread.Core.visit_needed.Given as goal

abbrev pub invariant-loop-alloc : goal.invariant-loop-alloc
invariant-loop-alloc g l =
    ((h : g.row.H.Denot) (a : CoreInput) → GoesOn g.H.Hash32.digest h l.fn.self a l.session → GoesOn g.H.Hash32.digest h l.self a l.session)
    × ChangesSession WentOn l.session l.fn.self l.self

abbrev pub decreases-loop-alloc : goal.decreases-loop-alloc
decreases-loop-alloc g l = work l.session l.self
