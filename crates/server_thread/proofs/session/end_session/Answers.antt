use Rattle.std.proofs.Common.{◌∙◌, refl, sym, subst}
use Rattle.base_board.specs.Boards.{seat_state}
use Rattle.spec_syntax.specs.Text.{statement_of}
use Rattle.spec_protocol.specs.Serves.{Serves}
use Rattle.server_thread.proofs.Going.{apart_at}
use Rattle.server_thread.proofs.Over.{same_taken, written_for}
use Rattle.server_thread.proofs.Ready.{may_leave}
use Rattle.server_thread.proofs.session.end_session.Goals as goal

pub leave-requires-clause-ends : goal.leave-requires-clause-ends
leave-requires-clause-ends g c κs within =
    let visits = c.visit_needed.ensures in
    may_leave g.H.Hash32.digest _ _ _ visits.ahead.seated.sits _ _ c.finish.ensures.finishing visits.went

pub leave-requires-clause-apart : goal.leave-requires-clause-apart
leave-requires-clause-apart g c κs within =
    let visits = c.visit_needed.ensures in
    let z = c.visit_needed.new.worker in
    let ends = may_leave g.H.Hash32.digest _ _ _ visits.ahead.seated.sits _ _ c.finish.ensures.finishing visits.went in
    apart_at g.H.Hash32.digest g.C.Clock.says z.job g.K.Serving.database.server
    (subst (λ j. Serves (g.H.Hash32.digest j.hasher) statement_of g.K.Serving.database.server) (sym (visits.job ∙ c.finish.ensures.job)) c.requires.serves) z.session z.taken (seat_state c.visit_needed.new.place) visits.ahead ends

pub returns-clause-wrote : goal.returns-clause-wrote
returns-clause-wrote g c =
    let f = c.finish.ensures in
    let visits = c.visit_needed.ensures in
    let l = c.leave.ensures in
    let job = l.job ∙ visits.job ∙ f.job in
    let taken = l.taken ∙ visits.taken ∙ f.taken in
    written_for g.C.Clock.says _ _ _ _ _ _ _ _ _ job (same_taken c.leave.new.self c.args.worker.now job taken) visits.known refl refl c.settle.ensures.wrote
