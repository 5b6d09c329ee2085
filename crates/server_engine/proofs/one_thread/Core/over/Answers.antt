use Rattle.std.proofs.Common.{refl}
use Rattle.server_engine.proofs.Ends.{begins}
use Rattle.server_engine.proofs.one_thread.Core.over.Goals as goal

pub returns : goal.returns
returns g c = λ database size past starts. begins g.H.Hash32.digest c.args.hasher database size past c.args.cells.items starts _ refl refl c.new-sessions.ensures.items
