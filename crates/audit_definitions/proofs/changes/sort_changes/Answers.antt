use Rattle.std.proofs.Common.{rules, is_lt, ℤ}
use Rattle.std.proofs.lemmas.List.Sorted.{ranks_by}
use Rattle.std.proofs.lemmas.Fn.{always_returns_same}
use Rattle.std.specs.Cmp.{int_cmp_total}
use Rattle.std.specs.Ordering.{int_cmp}
use Rattle.sql_parts.proofs.Sorting.{sorted_stably}
use Rattle.audit_definitions.proofs.changes.sort_changes.Goals as goal

abbrev itself : ℤ → ℤ
itself n = n

pub returns : goal.returns
returns c =
    sorted_stably int_cmp int_cmp_total _ _
    (c.in_ok-sort_by.ensures.sorted (λ x y. is_lt (int_cmp (itself x) (itself y))) (ranks_by int_cmp_total itself) (always_returns_same _ _ _ (λ a r f k. search rules)))
    (c.in_ok-sort_by.ensures.stable (λ x y. is_lt (int_cmp (itself x) (itself y))) (ranks_by int_cmp_total itself) (always_returns_same _ _ _ (λ a r f k. search rules)))
