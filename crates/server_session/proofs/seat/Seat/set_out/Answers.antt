use Rattle.server_session.proofs.Course.{alone_then}
use Rattle.server_session.proofs.seat.Seat.set_out.Goals as goal

pub returns-in-Ok-clause-steps : goal.returns-in-Ok-clause-steps
returns-in-Ok-clause-steps g c = alone_then g.H.Hash32.digest c.args.self.now c.make_ready.new.self c.go_on.new.self c.make_ready.ensures.steps c.go_on.ensures.steps

pub returns-in-Err-clause-steps : goal.returns-in-Err-clause-steps
returns-in-Err-clause-steps g c = alone_then g.H.Hash32.digest c.args.self.now c.make_ready.new.self c.lack_memory.new.self c.make_ready.ensures.steps c.lack_memory.ensures.steps
