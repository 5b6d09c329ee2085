use Rattle.std.proofs.Common.{rules, is_lt, Bor, ℕ}
use Rattle.std.proofs.lemmas.List.Sorted.{ranks_by}
use Rattle.std.proofs.lemmas.Fn.{always_returns_same}
use Rattle.std.specs.Cmp.{on_total}
use Rattle.sql_types.specs.declared.version.Version.{Version}
use Rattle.spec_model.specs.Keys.{key_cmp, version_key_at}
use Rattle.sql_parts.proofs.Orders.{key_total}
use Rattle.sql_parts.proofs.Sorting.{sorted_by}
use Rattle.audit_asof.specs.KeyOrder.{Placed, placed_cmp}
use Rattle.audit_asof.proofs.KeyOrder.{placed_total}
use Rattle.audit_asof.proofs.by_key.sort_by_key.Goals as goal

abbrev seen : ℕ × Bor Version → Placed
seen p = (p.0, p.1.now)

pub returns : goal.returns
returns c =
    let cmp = placed_cmp c.args.key.now in
    let total = placed_total c.args.key.now in
    sorted_by seen cmp total _ _
    (c.in_ok-sort_by.ensures.sorted (λ x y. is_lt (cmp (seen x) (seen y))) (ranks_by total seen) (always_returns_same _ _ _ (λ a r f k. search rules)))
    (c.in_ok-sort_by.ensures.stable (λ x y. is_lt (cmp (seen x) (seen y))) (ranks_by total seen) (always_returns_same _ _ _ (λ a r f k. search rules)))
