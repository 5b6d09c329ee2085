use Rattle.std.proofs.Common.{◌≡◌, ℕ, List, map, sym, subst}
use Rattle.format_lines.specs.Line.{seen}
use Rattle.server_engine.specs.FirstCells.{first_kept}
use Rattle.server_engine.specs.Starts.{Starts, past_in}
use Rattle.server_result.specs.Moments.{said_with}
use Rattle.server_step.specs.CameBehind.{CameToBehind}
use Rattle.server_step.proofs.NoPast.{came_first}
use Rattle.server_step.proofs.running.run_lines.Goals as goal

pub run_lines_behind-requires-clause-starts : goal.run_lines_behind-requires-clause-starts
run_lines_behind-requires-clause-starts g c κs within =
    let h = g.H.Hash32.digest c.args.hasher in
    let database = c.args.how.database.now in
    let size = c.args.how.block_size in
    let are = subst (λ (name : List ℕ). c.in_ok-cells.cells.items ≡ first_kept name size) c.in_ok-database.ensures c.in_ok-cells.ensures in
    subst (Starts h database size) (sym are) (c.runs_start.ensures.with_none h database size c.requires.some c.requires.most)

pub returns : goal.returns
returns g c =
    let h = g.H.Hash32.digest c.args.hasher in
    let database = c.args.how.database.now in
    let size = c.args.how.block_size in
    let says = said_with c.args.how.clock (g.C.Clock.says c.args.clock.now) in
    let statements = map seen c.args.lines.now in
    let ran = c.in_ok-ran.ensures in
    let came = subst (λ cells. CameToBehind h database size (past_in cells) says statements ran.0) c.in_ok-cells.ensures ran.1 in
    (ran.0, came_first c.runs_behind_no_past_agree.ensures h database size says statements ran.0 came, ran.2)
