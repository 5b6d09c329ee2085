use Rattle.std.proofs.Common.{rules, is_lt}
use Rattle.std.proofs.lemmas.Fn.{always_returns_same}
use Rattle.std.proofs.lemmas.List.Sorted.{ranks_by}
use Rattle.sql_parts.proofs.Sorting.{sorted_stably}
use Rattle.audit_rules.specs.declared.first_ranks.Happened.{Happened}
use Rattle.audit_rules.specs.FirstRanks.{happened_cmp}
use Rattle.audit_rules.proofs.Happenings.{happened_total}
use Rattle.audit_rules.proofs.first_ranks.sort_by_thing.Goals as goal

abbrev itself : Happened → Happened
itself h = h

pub returns : goal.returns
returns c =
    sorted_stably happened_cmp happened_total _ _
    (c.in_ok-sort_by.ensures.sorted (λ x y. is_lt (happened_cmp (itself x) (itself y))) (ranks_by happened_total itself) (always_returns_same _ _ _ (λ a r f k. search rules)))
    (c.in_ok-sort_by.ensures.stable (λ x y. is_lt (happened_cmp (itself x) (itself y))) (ranks_by happened_total itself) (always_returns_same _ _ _ (λ a r f k. search rules)))
