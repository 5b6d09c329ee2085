use Rattle.std.proofs.Common.{◌≡◌, ◌∙◌, ap, subst, IfOk}
use Rattle.spec_model.specs.Lists.{sorted}
use Rattle.sql_select.specs.SortKeys.{keys_cmp}
use Rattle.sql_select.proofs.SortKeys.{sorted_by_keys}
use Rattle.sql_select.proofs.ordering.ordered.Goals as goal

pub returns : goal.returns
returns c =
    let rows = c.args.rows.items in
    let kept = ap (λ keys. sorted (keys_cmp keys) rows) c.deref-2.ensures.value ∙ ap (λ cmp. sorted cmp rows) (λ i a b. c.in_ok-kept.ensures a b i) in
    let same = ap (λ keys. sorted (keys_cmp keys) rows) (c.deref.ensures.value ∙ c.in_ok-keys.ensures) ∙ sorted_by_keys c.args.columns.now c.args.order.now rows in
    subst (λ meant. IfOk c.sorted_rows.result (λ out. out.items ≡ meant)) (kept ∙ same) c.sorted_rows.ensures
