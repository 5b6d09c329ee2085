use Rattle.std.proofs.Common.{rules, is_lt}
use Rattle.std.proofs.lemmas.List.Sorted.{answers_always, ranks_by}
use Rattle.std.specs.Cmp.{on_total}
use Rattle.spec_model.specs.Rows.{EventId, event_cmp}
use Rattle.spec_model.specs.Parts.{ViewRow}
use Rattle.sql_parts.proofs.Orders.{event_total}
use Rattle.sql_parts.proofs.Sorting.{sorted_stably}
use Rattle.sql_parts.proofs.order.sort_by_event.Goals as goal

abbrev event : ViewRow → EventId
event s = s.0

pub returns : goal.returns
returns c = sorted_stably (λ x y. event_cmp (event x) (event y)) (on_total event event_total) _ _
    (c.in_ok-sort_by.ensures.sorted (λ x y. is_lt (event_cmp (event x) (event y))) (ranks_by event_total event) (answers_always _ _ _ (λ f a r next called. search rules)))
    (c.in_ok-sort_by.ensures.stable (λ x y. is_lt (event_cmp (event x) (event y))) (ranks_by event_total event) (answers_always _ _ _ (λ f a r next called. search rules)))
