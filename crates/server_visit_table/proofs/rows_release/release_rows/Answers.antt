use Rattle.server_visit_table.proofs.RowsRelease.{comes_on, releases}
use Rattle.server_visit_table.proofs.rows_release.release_rows.Goals as goal

pub returns-in-Some-clause-visits : goal.returns-in-Some-clause-visits
returns-in-Some-clause-visits g c = releases g.H.Hash32.digest c.args.seat.now c.in-Some.running c.leave_rows.new.running c.args.rows.now c.leave_rows.new.rows c.in-Some.is c.requires.point
    c.leave_rows.ensures.cell c.leave_rows.ensures.context c.leave_rows.ensures.left c.leave_rows.ensures.rest

pub returns-in-Some-clause-comes_on : goal.returns-in-Some-clause-comes_on
returns-in-Some-clause-comes_on g c = comes_on g.H.Hash32.digest c.args.seat.now c.in-Some.running c.leave_rows.new.running c.args.rows.now c.leave_rows.new.rows c.in-Some.is c.requires.point
    c.leave_rows.ensures.cell c.leave_rows.ensures.context c.leave_rows.ensures.left c.leave_rows.ensures.rest c.requires.among
