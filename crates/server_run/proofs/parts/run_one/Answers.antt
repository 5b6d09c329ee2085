use Rattle.std.proofs.Common.{◌≡◌, ◌∷◌, ◌∙◌, List, [], ◌++◌, ap, length, subst, sym}
use Rattle.std.proofs.lemmas.List.{length-map}
use Rattle.base_board.specs.Boards.{seat_state}
use Rattle.server_result.specs.Moments.{said_with}
use Rattle.server_run.specs.AllWrote.{HaveWritten}
use Rattle.server_thread.specs.SessionEnd.{SessionEnd}
use Rattle.server_run.proofs.Sizes.{few_run}
use Rattle.server_run.proofs.Together.{have_one}
use Rattle.server_run.proofs.parts.run_one.Goals as goal

pub session_job-requires-clause-few : goal.session_job-requires-clause-few
session_job-requires-clause-few g c κs within =
    let texts = c.statements_run.result.now in
    few_run c.args.section.now (length texts) (sym (length-map texts (λ t. t.now)) ∙ ap length c.statements_run.ensures) c.requires.3.0.few

pub returns-clause-wrote : goal.returns-clause-wrote
returns-clause-wrote g c =
    let says = said_with c.args.run.now.moment (g.C.Clock.says c.args.run.now.clock.now) in
    let one : c.push.new.self.items ≡ c.in_ok-end.end ∷ [] = c.in_ok-push.ensures.items ∙ ap (λ (es : List SessionEnd). es ++ c.in_ok-end.end ∷ []) c.new-ends.ensures.items in
    subst (λ (es : List SessionEnd). HaveWritten says (c.args.section.now ∷ []) es (seat_state c.args.place) (seat_state c.session_job.new.place)) (sym one)
    (have_one says c.args.section.now _ c.in_ok-left.left c.in_ok-end.end (seat_state c.args.place) (seat_state c.session_job.new.place)
    c.statements_run.ensures c.in_ok-left.ensures.wrote c.in_ok-end.ensures.images c.in_ok-end.ensures.answered)
