use Rattle.std.proofs.Common.{rules, is_lt, ℕ}
use Rattle.std.proofs.lemmas.List.Sorted.{answers_always, ranks_by}
use Rattle.std.specs.Cmp.{on_total, nat_cmp_total}
use Rattle.std.specs.Ordering.{nat_cmp}
use Rattle.sql_types.specs.declared.event.Event.{Event}
use Rattle.sql_parts.proofs.Sorting.{sorted_stably}
use Rattle.sql_apply.proofs.events.sort_by_number.Goals as goal

abbrev number : Event → ℕ
number e = e.seq

pub returns : goal.returns
returns c = sorted_stably (λ x y. nat_cmp (number x) (number y)) (on_total number nat_cmp_total) _ _
    (c.in_ok-sort_by.ensures.sorted (λ x y. is_lt (nat_cmp (number x) (number y))) (ranks_by nat_cmp_total number) (answers_always _ _ _ (λ f a r next called. search rules)))
    (c.in_ok-sort_by.ensures.stable (λ x y. is_lt (nat_cmp (number x) (number y))) (ranks_by nat_cmp_total number) (answers_always _ _ _ (λ f a r next called. search rules)))
