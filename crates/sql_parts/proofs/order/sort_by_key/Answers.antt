use Rattle.std.proofs.Common.{rules, is_lt, Bor, List}
use Rattle.std.proofs.lemmas.List.Sorted.{ranks_by}
use Rattle.std.proofs.lemmas.Fn.{always_returns_same}
use Rattle.std.specs.Cmp.{on_total}
use Rattle.sql_value.specs.declared.column.ColumnDef.{ColumnDef}
use Rattle.sql_types.specs.declared.version.Version.{Version}
use Rattle.spec_model.specs.Keys.{Key, key_cmp, version_key}
use Rattle.sql_parts.proofs.Orders.{key_total}
use Rattle.sql_parts.proofs.Sorting.{sorted_by}
use Rattle.sql_parts.proofs.order.sort_by_key.Goals as goal

abbrev seen : Bor Version → Version
seen v = v.now

abbrev seen_key : List ColumnDef → Bor Version → Key
seen_key columns v = version_key columns (seen v)

pub returns : goal.returns
returns c =
    let columns = c.args.table.now.columns in
    sorted_by seen (λ v w. key_cmp (version_key columns v) (version_key columns w)) (on_total (version_key columns) key_total) _ _
    (c.in_ok-sort_by.ensures.sorted (λ x y. is_lt (key_cmp (seen_key columns x) (seen_key columns y))) (ranks_by key_total (seen_key columns)) (always_returns_same _ _ _ (λ a r f k. search rules)))
    (c.in_ok-sort_by.ensures.stable (λ x y. is_lt (key_cmp (seen_key columns x) (seen_key columns y))) (ranks_by key_total (seen_key columns)) (always_returns_same _ _ _ (λ a r f k. search rules)))
