use Rattle.std.proofs.Common.{◌∙◌, ap, subst}
use Rattle.spec_model.specs.Lists.{sorted}
use Rattle.spec_model.specs.Query.{order_cmp, apply_select_list}
use Rattle.sql_select.specs.Answers.{ItemsMatchUnlessOom}
use Rattle.sql_select.proofs.selecting.show_matching.Goals as goal

pub returns : goal.returns
returns c =
    let columns = c.args.columns.now in
    let order = c.in_ok-ordered.ensures ∙ ap (λ o. sorted (order_cmp columns o) c.args.taken.items) c.as_slice.ensures in
    subst (λ rows. ItemsMatchUnlessOom (apply_select_list columns c.args.dropped.now c.args.shown c.args.q.now.what rows) c.apply_select_list.result) order c.apply_select_list.ensures
