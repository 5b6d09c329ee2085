use Rattle.std.proofs.Common.{List, ℕ, [], length, map, take}
use Rattle.law_behind.specs.Past.{Past}
use Rattle.server_engine.specs.Standing.{Stands}
use Rattle.format_lines.specs.Line.{seen}
use Rattle.server_result.specs.Moments.{said_with}
use Rattle.server_step.specs.Reached.{AreOpen, Reached, asked}
use Rattle.server_step.proofs.lines.run_each.Given as goal

-- the statements so far were run, and the sessions are open
abbrev pub invariant-loop-line : goal.invariant-loop-line
invariant-loop-line g l =
    ((h : g.row.H.Denot) (past : Past) (database : List ℕ) (size : ℕ)
    → Stands g.H.Hash32.digest h l.initial.core (asked past database size (map (λ n. n.now) l.sessions) [] [])
    → Reached g.H.Hash32.digest h past database size (map (λ n. n.now) l.sessions) (said_with l.given (g.C.Clock.says l.clock)) (map seen (take l.line-index l.lines)) l.core)
    × AreOpen l.core (length l.sessions)
