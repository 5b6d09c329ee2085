use Rattle.server_thread.proofs.Going.{begins_ahead}
use Rattle.server_thread.proofs.worker.begin.Goals as goal

pub returns-clause-ahead : goal.returns-clause-ahead
returns-clause-ahead g c = λ v s idle.
    let new = c.new_session-session in
    let b = new.ensures in
    begins_ahead g.H.Hash32.digest g.C.Clock.says c.args.job v new.result s c.in_ok-name.name
    (b.begins v s idle.present idle.role) idle b.between b.name c.in_ok-name.ensures b.entries b.answer b.last b.images
