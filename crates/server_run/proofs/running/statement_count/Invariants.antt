use Rattle.std.proofs.Common.{◌≤◌, ◌+◌, take, length}
use Rattle.server_run.proofs.Sizes.{weight}
use Rattle.server_run.proofs.running.statement_count.Given as goal

-- those of the sessions so far
abbrev pub invariant-loop-session : goal.invariant-loop-session
invariant-loop-session l = l.count ≤ length l.fn.all_sections.setup.items + weight (take l.session-index l.session-items)
