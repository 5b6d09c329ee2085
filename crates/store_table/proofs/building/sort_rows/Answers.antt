use Rattle.std.proofs.Common.{rules, is_lt, Bor}
use Rattle.std.proofs.lemmas.List.Sorted.{ranks_by}
use Rattle.std.proofs.lemmas.Fn.{always_returns_same}
use Rattle.sql_types.specs.declared.version.Version.{Version}
use Rattle.sql_parts.proofs.Sorting.{sorted_by}
use Rattle.store_table.specs.Orders.{row_cmp}
use Rattle.store_table.proofs.InOrder.{row_total}
use Rattle.store_table.proofs.building.sort_rows.Goals as goal

abbrev seen : Bor Version → Version
seen v = v.now

pub returns : goal.returns
returns c =
    let cmp = row_cmp c.args.ordinals.now c.args.key.now in
    let total = row_total c.args.ordinals.now c.args.key.now in
    sorted_by seen cmp total _ _
    (c.in_ok-sort_by.ensures.sorted (λ x y. is_lt (cmp (seen x) (seen y))) (ranks_by total seen) (always_returns_same _ _ _ (λ a r f k. search rules)))
    (c.in_ok-sort_by.ensures.stable (λ x y. is_lt (cmp (seen x) (seen y))) (ranks_by total seen) (always_returns_same _ _ _ (λ a r f k. search rules)))
