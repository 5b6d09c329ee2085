use Rattle.std.proofs.Common.{List, ℕ, [], map, take}
use Rattle.law_behind.specs.Past.{Past}
use Rattle.server_engine.specs.Standing.{Stands}
use Rattle.server_step.specs.Reached.{AreOpen, asked}
use Rattle.server_step.proofs.sessions.open_sessions.Given as goal

-- the sessions so far have begun
abbrev pub invariant-loop-session : goal.invariant-loop-session
invariant-loop-session g l =
    ((h : g.row.H.Denot) (past : Past) (database : List ℕ) (size : ℕ)
    → Stands g.H.Hash32.digest h l.initial.core (asked past database size [] [] [])
    → Stands g.H.Hash32.digest h l.core (asked past database size (map (λ n. n.now) (take l.session-index l.sessions)) [] []))
    × AreOpen l.core l.session-index
