use Rattle.std.proofs.Common.{Option, sym, subst₂}
use Rattle.sql_types.specs.declared.statement.Stmt.{Stmt}
use Rattle.server_session.specs.Steps.{Starts}
use Rattle.server_session.specs.declared.stage.ControlPoint.{ControlPoint}
use Rattle.server_session.proofs.Alone.{then_seat, took_up}
use Rattle.server_session.proofs.seat.Seat.take_up.Goals as goal

pub returns-clause-starts : goal.returns-clause-starts
returns-clause-starts g c = let y = c.args.self.now in
    subst₂ (λ (st : Option Stmt) (p : ControlPoint). Starts g.H.Hash32.digest y c.args.text (then_seat y c.args.now c.args.text st y.running p))
    (sym c.put_statement.ensures) (sym c.put_point.ensures) (took_up g.H.Hash32.digest y c.args.text c.args.now c.requires.between c.requires.moment)
