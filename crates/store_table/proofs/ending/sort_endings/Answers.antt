use Rattle.std.proofs.Common.{rules, is_lt}
use Rattle.std.proofs.lemmas.List.Sorted.{answers_always, ranks_by}
use Rattle.sql_parts.proofs.Sorting.{sorted_stably}
use Rattle.store_table.specs.Ends.{ending_cmp}
use Rattle.store_table.proofs.Ends.{ending_total}
use Rattle.store_table.proofs.ending.sort_endings.Goals as goal

pub returns-clause-ok : goal.returns-clause-ok
returns-clause-ok c = sorted_stably ending_cmp ending_total _ _
    (c.in_ok-sort_by.ensures.sorted (λ x y. is_lt (ending_cmp x y)) (ranks_by ending_total (λ x. x)) (answers_always _ _ _ (λ f a r next called. search rules)))
    (c.in_ok-sort_by.ensures.stable (λ x y. is_lt (ending_cmp x y)) (ranks_by ending_total (λ x. x)) (answers_always _ _ _ (λ f a r next called. search rules)))
