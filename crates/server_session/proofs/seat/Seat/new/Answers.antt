use Rattle.server_session.proofs.Alone.{session_begins}
use Rattle.server_session.proofs.seat.Seat.new.Goals as goal

pub returns-clause-begins : goal.returns-clause-begins
returns-clause-begins g c = session_begins g.H.Hash32.digest c.args.hasher c.args.name _ c.requires
