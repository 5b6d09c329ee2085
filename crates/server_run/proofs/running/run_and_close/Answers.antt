use Rattle.std.proofs.Common.{List, sym, subst}
use Rattle.format_sections.specs.RunSections.{run_sections_view}
use Rattle.server_ending.specs.KeptCell.{KeptCell}
use Rattle.law_concurrent.proofs.Comes.{came_to_first}
use Rattle.server_result.specs.Moments.{IsMoment, said_with}
use Rattle.server_thread.specs.Starts.{Starts, past_in}
use Rattle.server_run.specs.CameTo.{CameToBehind, input_of}
use Rattle.server_run.proofs.running.run_and_close.Goals as goal

pub run_and_close_behind-requires-clause-starts : goal.run_and_close_behind-requires-clause-starts
run_and_close_behind-requires-clause-starts g c κs within =
    let h = g.H.Hash32.digest c.args.hasher in
    let database = c.args.how.database.now in
    let size = c.args.how.block_size in
    subst (Starts h database size) (sym c.in_ok-cells.ensures) (c.runs_start.ensures.with_none h database size c.requires.some c.requires.most)

pub returns : goal.returns
returns g c =
    let h = g.H.Hash32.digest c.args.hasher in
    let database = c.args.how.database.now in
    let size = c.args.how.block_size in
    let says = said_with c.args.how.clock (g.C.Clock.says c.args.clock.now) in
    let all_sections = run_sections_view c.args.all_sections.now in
    let ran = c.in_ok-ran.ensures in
    let came = subst (λ (cells : List KeptCell). CameToBehind h database size (past_in cells) says all_sections ran.0) c.in_ok-cells.ensures ran.2 in
    (ran.0, ran.1, came_to_first c.without_a_past_nothing_else_is_meant.ensures.agree h database size (IsMoment says) (input_of all_sections) ran.0 came, ran.3, ran.4)
