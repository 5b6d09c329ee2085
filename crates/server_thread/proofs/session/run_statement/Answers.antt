use Rattle.server_engine.proofs.Holding.{none_inside}
use Rattle.server_thread.proofs.Ready.{answer_there}
use Rattle.server_thread.proofs.session.run_statement.Goals as goal

pub answer-requires-clause-answers : goal.answer-requires-clause-answers
answer-requires-clause-answers g c κs within =
    let visits = c.visit_needed.ensures in
    answer_there g.H.Hash32.digest _ _ _ visits.ahead.seated.sits _ c.in_ok-start.ensures.under_way visits.went

pub answer-requires-clause-written : goal.answer-requires-clause-written
answer-requires-clause-written g c κs within =
    let visits = c.visit_needed.ensures in
    let z = c.visit_needed.new.worker in
    let answers = answer_there g.H.Hash32.digest _ _ _ visits.ahead.seated.sits _ c.in_ok-start.ensures.under_way visits.went in
    none_inside z.session.seat.point z.session.answer z.session.seat.running answers visits.ahead.seated.answer
