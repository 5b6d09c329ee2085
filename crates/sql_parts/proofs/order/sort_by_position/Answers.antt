use Rattle.std.proofs.Common.{rules, is_lt, Bor, ℕ}
use Rattle.std.proofs.lemmas.List.Sorted.{answers_always, ranks_by}
use Rattle.sql_value.specs.declared.column.ColumnDef.{ColumnDef}
use Rattle.spec_model.specs.Keys.{Placed, position_cmp}
use Rattle.sql_parts.proofs.Orders.{position_total}
use Rattle.sql_parts.proofs.Sorting.{sorted_by}
use Rattle.sql_parts.proofs.order.sort_by_position.Goals as goal

abbrev seen : ℕ × Bor ColumnDef → Placed
seen p = (p.0, p.1.now)

pub returns : goal.returns
returns c = sorted_by seen position_cmp position_total _ _
    (c.in_ok-sort_by.ensures.sorted (λ x y. is_lt (position_cmp (seen x) (seen y))) (ranks_by position_total seen) (answers_always _ _ _ (λ f a r next called. search rules)))
    (c.in_ok-sort_by.ensures.stable (λ x y. is_lt (position_cmp (seen x) (seen y))) (ranks_by position_total seen) (answers_always _ _ _ (λ f a r next called. search rules)))
