use Rattle.std.proofs.Common.{subst}
use Rattle.spec_model.specs.Where.{holds}
use Rattle.sql_select.specs.Answers.{ItemsMatchUnlessOom}
use Rattle.sql_parts.proofs.InTurn.{filter_after_none, all_pass}
use Rattle.sql_select.proofs.filtering.taken.Goals as goal

pub returns-in-Some : goal.returns-in-Some
returns-in-Some c =
    let test = holds c.args.columns.now c.args.cond.now in
    subst (λ meant. ItemsMatchUnlessOom meant c.those_taken.result) (filter_after_none test c.args.rows.items) c.those_taken.ensures

pub returns-in-None : goal.returns-in-None
unfolding holds
returns-in-None c = rw c.in-None.is (all_pass c.args.rows.items)
