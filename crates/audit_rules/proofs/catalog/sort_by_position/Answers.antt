use Rattle.std.proofs.Common.{rules, is_lt}
use Rattle.std.proofs.lemmas.Fn.{always_returns_same}
use Rattle.std.proofs.lemmas.List.Sorted.{ranks_by}
use Rattle.sql_parts.proofs.Sorting.{sorted_stably}
use Rattle.audit_rules.specs.declared.rows.PlacedVersion.{PlacedVersion}
use Rattle.audit_rules.specs.Seen.{position_cmp}
use Rattle.audit_rules.proofs.Sorted.{positions_total}
use Rattle.audit_rules.proofs.catalog.sort_by_position.Goals as goal

abbrev itself : PlacedVersion → PlacedVersion
itself r = r

pub returns : goal.returns
returns c =
    sorted_stably position_cmp positions_total _ _
    (c.in_ok-sort_by.ensures.sorted (λ x y. is_lt (position_cmp (itself x) (itself y))) (ranks_by positions_total itself) (always_returns_same _ _ _ (λ a r f k. search rules)))
    (c.in_ok-sort_by.ensures.stable (λ x y. is_lt (position_cmp (itself x) (itself y))) (ranks_by positions_total itself) (always_returns_same _ _ _ (λ a r f k. search rules)))
