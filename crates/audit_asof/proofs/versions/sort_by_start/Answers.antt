use Rattle.std.proofs.Common.{rules, is_lt}
use Rattle.std.proofs.lemmas.List.Sorted.{answers_always, ranks_by}
use Rattle.std.specs.Cmp.{on_total}
use Rattle.sql_types.specs.declared.version.Version.{Version}
use Rattle.spec_model.specs.Rows.{EventId, event_cmp}
use Rattle.sql_parts.proofs.Orders.{event_total}
use Rattle.sql_parts.proofs.Sorting.{sorted_stably}
use Rattle.audit_asof.proofs.versions.sort_by_start.Goals as goal

abbrev start : Version → EventId
start v = v.start

pub returns : goal.returns
returns c = sorted_stably (λ x y. event_cmp (start x) (start y)) (on_total start event_total) _ _
    (c.in_ok-sort_by.ensures.sorted (λ x y. is_lt (event_cmp (start x) (start y))) (ranks_by event_total start) (answers_always _ _ _ (λ f a r next called. search rules)))
    (c.in_ok-sort_by.ensures.stable (λ x y. is_lt (event_cmp (start x) (start y))) (ranks_by event_total start) (answers_always _ _ _ (λ f a r next called. search rules)))
