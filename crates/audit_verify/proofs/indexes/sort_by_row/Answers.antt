use Rattle.std.proofs.Common.{rules, is_lt, Bor, ℕ, List}
use Rattle.std.proofs.lemmas.List.Sorted.{ranks_by}
use Rattle.std.proofs.lemmas.Fn.{always_returns_same}
use Rattle.sql_types.specs.declared.version.Version.{Version}
use Rattle.format_image.specs.Rows.{Stored, stored_cmp}
use Rattle.sql_parts.proofs.Sorting.{sorted_by}
use Rattle.audit_verify.specs.Indexes.{row_at}
use Rattle.audit_verify.proofs.StoredRows.{stored_total}
use Rattle.audit_verify.proofs.indexes.sort_by_row.Goals as goal

abbrev seen : List ℕ → Bor Version → Stored
seen ordinals v = row_at ordinals v.now

pub returns : goal.returns
returns c =
    let row = seen c.args.ordinals.now in
    sorted_by row stored_cmp stored_total _ _
    (c.in_ok-sort_by.ensures.sorted (λ x y. is_lt (stored_cmp (row x) (row y))) (ranks_by stored_total row) (always_returns_same _ _ _ (λ a r f k. search rules)))
    (c.in_ok-sort_by.ensures.stable (λ x y. is_lt (stored_cmp (row x) (row y))) (ranks_by stored_total row) (always_returns_same _ _ _ (λ a r f k. search rules)))
