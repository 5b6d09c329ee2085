use Rattle.std.proofs.Common.{ap, ◌∙◌}
use Rattle.sql_parse.specs.Text.{statement_of}
use Rattle.server_session.proofs.Course.{makes_room, gets_ready}
use Rattle.server_session.proofs.seat.Seat.make_ready.Goals as goal

pub returns-in_err-make_room-clause-steps : goal.returns-in_err-make_room-clause-steps
returns-in_err-make_room-clause-steps g c = makes_room g.H.Hash32.digest c.args.self.now c.requires c.make_room.new.running c.make_room.ensures.same

pub returns-in_err-stmt-clause-steps : goal.returns-in_err-stmt-clause-steps
returns-in_err-stmt-clause-steps g c = makes_room g.H.Hash32.digest c.args.self.now c.requires c.make_room.new.running c.make_room.ensures.same

pub returns-clause-steps : goal.returns-clause-steps
returns-clause-steps g c = gets_ready g.H.Hash32.digest c.args.self.now c.requires c.put_statement.new.place c.make_room.new.running
    (c.put_statement.ensures ∙ c.in_ok-stmt.ensures ∙ ap statement_of c.as_str.ensures.value) c.make_room.ensures.same
