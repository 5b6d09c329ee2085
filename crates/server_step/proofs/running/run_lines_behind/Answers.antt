use Rattle.std.proofs.Common.{List, ℕ, map, Bor}
use Rattle.std.specs.List.{AllByRecursion}
use Rattle.spec_syntax.specs.Text.{statement_of}
use Rattle.server_engine.proofs.SessionOutput.{some_meaning}
use Rattle.law_server.proofs.Servers.{some_server}
use Rattle.format_digest.specs.Writing.{HasMoments}
use Rattle.format_lines.specs.Line.{seen}
use Rattle.server_engine.specs.Starts.{past_in}
use Rattle.server_result.specs.Moments.{said_with}
use Rattle.server_result.proofs.LegalTimes.{AnyTime, legal_times, made_at_any_time}
use Rattle.server_result.proofs.Made.{have_moments}
use Rattle.server_step.specs.RunOutcome.{run_left}
use Rattle.server_step.proofs.Comes.{comes_to}
use Rattle.server_step.proofs.Ends.{if_ok}
use Rattle.server_step.proofs.Whole.{is_ran}
use Rattle.server_step.proofs.running.run_lines_behind.Goals as goal

pub returns : goal.returns
returns g c =
    let h = g.H.Hash32.digest c.args.hasher in
    let database = c.args.how.database.now in
    let size = c.args.how.block_size in
    let past = past_in c.args.cells.items in
    let says = said_with c.args.how.clock (g.C.Clock.says c.args.clock.now) in
    let ss = map seen c.args.lines.now in
    let names = map (λ (n : Bor (List ℕ)). n.now) c.args.sessions.now in
    let p = c.in_ok-parts.parts in
    let x = c.in_ok-parts.ensures in
    let accepted = c.kept_images_behind_a_past_are_accepted.ensures in
    let came = comes_to c.ended_runs_behind_a_past_agree.ensures.behind c.journals_of_runs_behind_a_past_are_legal.ensures c.times_behind_a_past_are_those_of_sessions.ensures accepted.room accepted.whole accepted.all
    some_server c.sessions_law.ensures.once c.sessions_law.ensures.named h past database size says ss p x in
    let m = some_meaning h statement_of in
    let moments : AllByRecursion HasMoments p.digests = have_moments m.0 database p.journal.items AnyTime p.digests (legal_times p.journal.items came.legal.items) (made_at_any_time says p.digests came.made) (came.agrees.agree m.0 m.1).digests_are_the_journals.each in
    if_ok c.left_by.result (λ r kept. (run_left ss x.left.transcripts p, came, is_ran h past database size says ss names p x r c.requires.sessions kept (c.is_encodable.ensures statement_of came.legal) moments)) c.left_by.ensures
