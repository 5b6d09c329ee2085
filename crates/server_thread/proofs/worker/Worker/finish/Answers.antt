use Rattle.server_thread.proofs.Going.{finishes_ahead}
use Rattle.server_thread.proofs.worker.Worker.finish.Goals as goal

pub returns-clause-ahead : goal.returns-clause-ahead
returns-clause-ahead g c = λ v s serves ahead.
    let z = c.args.self.now in
    let f = c.finish.ensures in
    finishes_ahead g.H.Hash32.digest g.C.Clock.says z.job v serves z.session z.taken s ahead c.requires c.finish.new.self
    f.steps f.end f.started f.name f.shown f.apart f.last f.images
