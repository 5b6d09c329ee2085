use Rattle.server_session.proofs.Alone.{starts_then}
use Rattle.server_session.proofs.seat.Seat.start.Goals as goal

pub returns-clause-starts : goal.returns-clause-starts
returns-clause-starts g c = starts_then g.H.Hash32.digest c.args.self.now c.take_up.new.self c.set_out.new.self c.args.text c.take_up.ensures.starts c.set_out.ensures.steps
