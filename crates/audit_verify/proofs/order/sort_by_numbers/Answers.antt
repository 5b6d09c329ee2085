use Rattle.std.proofs.Common.{rules, is_lt}
use Rattle.std.proofs.lemmas.Fn.{always_returns_same}
use Rattle.std.proofs.lemmas.List.Sorted.{ranks_by}
use Rattle.sql_parts.proofs.Sorting.{sorted_stably}
use Rattle.audit_verify.specs.declared.order.VersionWithRanks.{VersionWithRanks}
use Rattle.audit_verify.specs.Order.{numbered_cmp}
use Rattle.audit_verify.proofs.KeyNumbers.{numbered_total}
use Rattle.audit_verify.proofs.order.sort_by_numbers.Goals as goal

abbrev itself : VersionWithRanks → VersionWithRanks
itself r = r

pub returns : goal.returns
returns c =
    sorted_stably numbered_cmp numbered_total _ _
    (c.in_ok-sort_by.ensures.sorted (λ x y. is_lt (numbered_cmp (itself x) (itself y))) (ranks_by numbered_total itself) (always_returns_same _ _ _ (λ a r f k. search rules)))
    (c.in_ok-sort_by.ensures.stable (λ x y. is_lt (numbered_cmp (itself x) (itself y))) (ranks_by numbered_total itself) (always_returns_same _ _ _ (λ a r f k. search rules)))
