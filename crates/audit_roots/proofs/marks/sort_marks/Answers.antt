use Rattle.std.proofs.Common.{rules, is_lt}
use Rattle.std.proofs.lemmas.List.Sorted.{All-permutation, answers_always, ranks_by}
use Rattle.sql_parts.proofs.Sorting.{sorted_by}
use Rattle.audit_roots.specs.Marks.{event_of, leaf_cmp, HasValues}
use Rattle.audit_roots.proofs.LeafOrder.{leaf_total, tx_rises}
use Rattle.audit_roots.proofs.marks.sort_marks.Goals as goal

pub returns-clause-values : goal.returns-clause-values
returns-clause-values c = All-permutation HasValues _ _ c.sort_by.ensures.permutation

pub returns-clause-events : goal.returns-clause-events
returns-clause-events c =
    sorted_by event_of leaf_cmp leaf_total _ _
    (c.in_ok-sort_by.ensures.sorted (λ x y. is_lt (leaf_cmp (event_of x) (event_of y))) (ranks_by leaf_total event_of) (answers_always _ _ _ (λ f a r next called. search rules)))
    (c.in_ok-sort_by.ensures.stable (λ x y. is_lt (leaf_cmp (event_of x) (event_of y))) (ranks_by leaf_total event_of) (answers_always _ _ _ (λ f a r next called. search rules)))

pub returns-clause-rise : goal.returns-clause-rise
returns-clause-rise c =
    tx_rises _ (c.in_ok-sort_by.ensures.sorted (λ x y. is_lt (leaf_cmp (event_of x) (event_of y))) (ranks_by leaf_total event_of) (answers_always _ _ _ (λ f a r next called. search rules)))
