use Rattle.std.proofs.Common.{rules, is_lt}
use Rattle.std.proofs.lemmas.Fn.{always_returns_same}
use Rattle.std.proofs.lemmas.List.Sorted.{ranks_by}
use Rattle.sql_parts.proofs.Sorting.{sorted_stably}
use Rattle.audit_verify.specs.declared.order.VersionWithRanks.{VersionWithRanks}
use Rattle.audit_verify.specs.Order.{ranked_cmp}
use Rattle.audit_verify.proofs.InRuns.{ranked_total}
use Rattle.audit_verify.proofs.order.sort_by_keys.Goals as goal

abbrev itself : VersionWithRanks → VersionWithRanks
itself r = r

pub returns : goal.returns
returns c =
    let cmp = ranked_cmp c.args.table.now.columns in
    let total = ranked_total c.args.table.now.columns in
    sorted_stably cmp total _ _
    (c.in_ok-sort_by.ensures.sorted (λ x y. is_lt (cmp (itself x) (itself y))) (ranks_by total itself) (always_returns_same _ _ _ (λ a r f k. search rules)))
    (c.in_ok-sort_by.ensures.stable (λ x y. is_lt (cmp (itself x) (itself y))) (ranks_by total itself) (always_returns_same _ _ _ (λ a r f k. search rules)))
