use Rattle.std.proofs.Common.{length}
use Rattle.base_board.specs.Boards.{seat_state}
use Rattle.server_result.specs.Moments.{said_with}
use Rattle.server_run.proofs.Halves.{halves, whole_again}
use Rattle.server_run.proofs.parts.+fn-run_part-join+arg2+fn-run_part-join+arg3+run_part.Goals as goal

pub returns-clause-wrote : goal.returns-clause-wrote
returns-clause-wrote g t c =
    let left = c.split_at.result.0.now in
    let right = c.split_at.result.1.now in
    halves (said_with c.args.run.now.moment (g.C.Clock.says c.args.run.now.clock.now)) c.args.run.now.board.now c.args.sections.now left right (seat_state c.args.place) (length right)
    (seat_state c.split-other.new.seat) (seat_state c.split-other.result) c.join-mine.result.0 c.join-mine.result.1 c.unite.result
    c.requires.ready.1.role (whole_again left right c.args.sections.now _ c.split_at.ensures.front c.split_at.ensures.back)
    c.split-other.ensures.kept.1 c.split-other.ensures.new.1
    c.unite.ensures c.join-mine.ensures.first.1 c.join-mine.ensures.second.1
