use Rattle.std.proofs.Common.{◌<◌, ◌≤◌, ℕ}
use Rattle.server_engine.specs.CoreInput.{CoreInput}
use Rattle.server_engine.specs.Standing.{IsOpen, Stands}
use Rattle.server_step.specs.Reached.{AreEnded, StandsEnded}
use Rattle.server_step.proofs.sessions.end_sessions.Given as goal

-- those so far are over, and the others are open
abbrev pub invariant-loop-session : goal.invariant-loop-session
invariant-loop-session g l =
    ((h : g.row.H.Denot) (a : CoreInput) → Stands g.H.Hash32.digest h l.initial.core a → StandsEnded g.H.Hash32.digest h l.core a)
    × AreEnded l.core l.session
    × ((j : ℕ) → l.session ≤ j → j < l.count → IsOpen l.core j)
