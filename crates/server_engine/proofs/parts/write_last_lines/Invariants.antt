use Rattle.server_engine.proofs.LastLines.{AreWhole}
use Rattle.server_engine.proofs.parts.write_last_lines.Given as goal

abbrev pub invariant-loop-session : goal.invariant-loop-session
invariant-loop-session g l = AreWhole l.session-index l.fn.sessions.items l.session-items
