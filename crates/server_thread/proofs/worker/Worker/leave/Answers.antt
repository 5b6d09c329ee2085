use Rattle.server_thread.proofs.Over.{leaves_ahead}
use Rattle.server_thread.proofs.worker.Worker.leave.Goals as goal

pub returns-clause-left : goal.returns-clause-left
returns-clause-left g c = λ v s serves ahead.
    let z = c.args.self.now in
    leaves_ahead g.H.Hash32.digest g.C.Clock.says z.job v serves z.session c.leave.new.self z.taken s ahead c.requires.ends
    c.leave.ensures
