use Rattle.std.proofs.Common.{rules, is_lt}
use Rattle.std.proofs.lemmas.List.Sorted.{answers_always, ranks_by}
use Rattle.spec_model.specs.Rows.{EventId, event_cmp}
use Rattle.sql_parts.proofs.Sorting.{sorted_stably}
use Rattle.audit_roots.proofs.EventIds.{ids_total, tx_rises}
use Rattle.audit_roots.proofs.event_ids.sort_ids.Goals as goal

pub returns-clause-ids : goal.returns-clause-ids
returns-clause-ids c = sorted_stably event_cmp ids_total _ _
    (c.in_ok-sort_by.ensures.sorted (λ x y. is_lt (event_cmp x y)) (ranks_by ids_total (λ (x : EventId). x)) (answers_always _ _ _ (λ f a r next called. search rules)))
    (c.in_ok-sort_by.ensures.stable (λ x y. is_lt (event_cmp x y)) (ranks_by ids_total (λ (x : EventId). x)) (answers_always _ _ _ (λ f a r next called. search rules)))

pub returns-clause-rise : goal.returns-clause-rise
returns-clause-rise c =
    tx_rises _ (c.in_ok-sort_by.ensures.sorted (λ x y. is_lt (event_cmp x y)) (ranks_by ids_total (λ (x : EventId). x)) (answers_always _ _ _ (λ f a r next called. search rules)))
