use Rattle.std.proofs.Common.{◌≡◌, rules}
use Rattle.std.specs.Ordering.{is_lt}
use Rattle.std.proofs.lemmas.Fn.{always_returns_same}
use Rattle.sql_select.specs.SortKeys.{keys_cmp}
use Rattle.sql_select.proofs.SortKeys.{keys_total}
use Rattle.sql_parts.proofs.Sorting.{sorted_from_sort_by}
use Rattle.sql_select.proofs.ordering.sorted_rows.Goals as goal

pub returns : goal.returns
returns c =
    let keys = c.args.keys.now in
    sorted_from_sort_by (keys_cmp keys) (keys_total keys) _ _ c.in_ok-sort_by.ensures.sorted c.in_ok-sort_by.ensures.stable
    (always_returns_same _ (λ a r. is_lt r ≡ is_lt (keys_cmp keys a.0.now a.1.0.now)) _ (λ a r f' h. search rules))
