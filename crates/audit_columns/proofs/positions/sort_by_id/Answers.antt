use Rattle.std.proofs.Common.{rules, is_lt, ℕ}
use Rattle.std.proofs.lemmas.List.Sorted.{answers_always, ranks_by}
use Rattle.std.specs.Cmp.{on_total, nat_cmp_total}
use Rattle.std.specs.Ordering.{nat_cmp}
use Rattle.sql_parts.proofs.Sorting.{sorted_stably}
use Rattle.audit_columns.specs.Positions.{PlacedId}
use Rattle.audit_columns.proofs.positions.sort_by_id.Goals as goal

abbrev id_of : PlacedId → ℕ
id_of p = p.0

pub returns : goal.returns
returns c = sorted_stably (λ x y. nat_cmp (id_of x) (id_of y)) (on_total id_of nat_cmp_total) _ _
    (c.in_ok-sort_by.ensures.sorted (λ x y. is_lt (nat_cmp (id_of x) (id_of y))) (ranks_by nat_cmp_total id_of) (answers_always _ _ _ (λ f a r next called. search rules)))
    (c.in_ok-sort_by.ensures.stable (λ x y. is_lt (nat_cmp (id_of x) (id_of y))) (ranks_by nat_cmp_total id_of) (answers_always _ _ _ (λ f a r next called. search rules)))
