use Rattle.server_session.proofs.Ending.{ends_session}
use Rattle.server_session.proofs.seat.Seat.end_session.Goals as goal

pub returns-clause-ends : goal.returns-clause-ends
returns-clause-ends g c = ends_session g.H.Hash32.digest c.args.self.now c.requires
