use Rattle.std.proofs.Common.{subst}
use Rattle.spec_model.specs.Lists.{checked_filter}
use Rattle.spec_model.specs.Where.{holds}
use Rattle.sql_select.specs.Answers.{ItemsMatchUnlessOom}
use Rattle.sql_select.proofs.reading.other_taken.Goals as goal

pub returns : goal.returns
returns c =
    subst (λ rows. ItemsMatchUnlessOom (checked_filter (holds c.args.columns.now c.args.cond.now) rows) c.taken.result) c.in_ok-rows.ensures c.taken.ensures
