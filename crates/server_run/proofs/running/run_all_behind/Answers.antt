use Rattle.std.proofs.Common.{arith}
use Rattle.spec_syntax.specs.Text.{statement_of}
use Rattle.format_sections.specs.RunSections.{run_sections_view}
use Rattle.law_server.proofs.Servers.{some_server}
use Rattle.server_result.specs.Moments.{IsMoment, said_with}
use Rattle.law_concurrent.proofs.Said.{came_so}
use Rattle.server_thread.specs.Starts.{past_in}
use Rattle.server_run.specs.CameTo.{input_of}
use Rattle.server_run.proofs.Leaves.{cells_stand, is_of, joined_so, left_of}
use Rattle.server_run.proofs.Sizes.{are_runnable, few_sessions, size_is}
use Rattle.server_run.proofs.running.run_all_behind.Goals as goal

pub run_over-requires-clause-runnable : goal.run_over-requires-clause-runnable
run_over-requires-clause-runnable g c κs within = are_runnable c.args.all_sections.now c.requires.few c.requires.names

pub run_over-requires-clause-numbers : goal.run_over-requires-clause-numbers
run_over-requires-clause-numbers g c κs within =
    let all_sections = c.args.all_sections.now in
    let all = size_is all_sections in let sessions = few_sessions all_sections.sessions.items in let few = c.requires.few in omega (arith, all, sessions, few)

pub left_by-requires : goal.left_by-requires
left_by-requires g c =
    let h = g.H.Hash32.digest c.args.hasher in
    let v = some_server h statement_of in
    cells_stand h ((g.met.H.Hash32 g.world.𝓛 g.world.𝓜 g.world.𝓡 ((λ s x. x), (λ x. x), (λ x. x), λ x. x)).sized c.args.hasher)
    (said_with c.args.how.clock (g.C.Clock.says c.args.clock.now)) c.args.all_sections.now
    (record { server = v.0; database = c.args.how.database.now; size = c.args.how.block_size; past = past_in c.args.cells.items }) v.1
    c.in_ok-finished.finished c.in_ok-finished.ensures

pub returns : goal.returns
returns g c =
    let h = g.H.Hash32.digest c.args.hasher in
    let sized = (g.met.H.Hash32 g.world.𝓛 g.world.𝓜 g.world.𝓡 ((λ s x. x), (λ x. x), (λ x. x), λ x. x)).sized c.args.hasher in
    let database = c.args.how.database.now in
    let size = c.args.how.block_size in
    let past = past_in c.args.cells.items in
    let says = said_with c.args.how.clock (g.C.Clock.says c.args.clock.now) in
    let all_sections = c.args.all_sections.now in
    let v = some_server h statement_of in
    let f = c.in_ok-finished.finished in
    let fin = c.in_ok-finished.ensures in
    let r = c.in_ok-ran.ran in
    let saved = c.in_ok-ran.ensures in
    let joined = joined_so h sized says all_sections (record { server = v.0; database = database; size = size; past = past }) v.1 f fin r saved c.requires.database c.requires.names c.requires.apart in
    let left = left_of h sized says all_sections (record { server = v.0; database = database; size = size; past = past }) v.1 f fin r in
    let came = came_so h database size past (IsMoment says) (input_of (run_sections_view all_sections)) left joined c.runs_side_by_side_behind_a_past_agree.ensures.behind in
    (left, came, is_of h sized says all_sections (record { server = v.0; database = database; size = size; past = past }) v.1 f fin r saved (record { encodable = c.images_of_cuts_are_encodable.ensures; serially = c.snapshots_are_of_serial_runs.ensures.each }) came (c.is_encodable.ensures statement_of came.legal))
