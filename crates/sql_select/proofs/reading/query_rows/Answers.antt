use Rattle.std.proofs.Common.{rules}
use Rattle.sql_select.proofs.FromTaken.{shown_is}
use Rattle.sql_select.proofs.reading.query_rows.Goals as goal

pub returns : goal.returns
returns g c =
    shown_is c.args.table.now c.args.part c.args.q.now (g.R.LiveVersions.versions c.args.versions.now) _ _ _ _ _ _
    (search rules) (search rules) (search rules) (search rules) c.in_ok-taken.ensures c.show_matching.ensures
