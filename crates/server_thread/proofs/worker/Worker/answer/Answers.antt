use Rattle.server_thread.proofs.Going.{answers_ahead}
use Rattle.server_thread.proofs.worker.Worker.answer.Goals as goal

pub returns-clause-ahead : goal.returns-clause-ahead
returns-clause-ahead g c = λ v s serves ahead.
    let z = c.args.self.now in
    let r = c.requires in
    answers_ahead g.H.Hash32.digest g.C.Clock.says z.job v serves z.session z.taken s ahead r.answers r.written
    c.answer.new.self c.answer.ensures
