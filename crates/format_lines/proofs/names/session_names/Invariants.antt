use Rattle.std.proofs.Common.{◌≡◌, ◌≤◌, drop, length, map}
use Rattle.std.specs.List.{fold}
use Rattle.format_lines.specs.Line.{seen}
use Rattle.format_lines.specs.Sessions.{sessions_of, with_session, max_sessions}
use Rattle.format_lines.proofs.names.session_names.Given as goal

abbrev pub invariant-loop-line : goal.invariant-loop-line
invariant-loop-line l =
    (sessions_of (map seen l.lines) ≡ fold with_session (map (λ n. n.now) l.names.items) (map seen (drop l.line-index l.lines)))
    × (length l.names.items ≤ max_sessions)
