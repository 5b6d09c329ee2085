use Rattle.std.proofs.Common.{rules, is_lt, Bor}
use Rattle.std.proofs.lemmas.List.Sorted.{ranks_by}
use Rattle.std.proofs.lemmas.Fn.{always_returns_same}
use Rattle.sql_types.specs.declared.version.Version.{Version}
use Rattle.spec_model.specs.Rows.{Row, values_of}
use Rattle.sql_parts.proofs.Sorting.{sorted_by}
use Rattle.audit_definitions.specs.LatestRows.{change_cmp}
use Rattle.audit_definitions.proofs.LatestRows.{changes_total}
use Rattle.audit_definitions.proofs.latest_rows.sort_by_change.Goals as goal

abbrev seen : Bor Version → Row
seen v = values_of v.now

pub returns : goal.returns
returns c =
    let cmp = change_cmp c.args.place in
    let total = changes_total c.args.place in
    sorted_by seen cmp total _ _
    (c.in_ok-sort_by.ensures.sorted (λ x y. is_lt (cmp (seen x) (seen y))) (ranks_by total seen) (always_returns_same _ _ _ (λ a r f k. search rules)))
    (c.in_ok-sort_by.ensures.stable (λ x y. is_lt (cmp (seen x) (seen y))) (ranks_by total seen) (always_returns_same _ _ _ (λ a r f k. search rules)))
