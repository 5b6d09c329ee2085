use Rattle.std.proofs.Common.{rules, is_lt}
use Rattle.std.proofs.lemmas.List.Sorted.{answers_always, ranks_by}
use Rattle.format_image.specs.Rows.{Stored, stored_cmp}
use Rattle.sql_parts.proofs.Sorting.{sorted_stably}
use Rattle.format_image_rows.proofs.Orders.{stored_total}
use Rattle.format_image_rows.proofs.stored.sort_stored.Goals as goal

abbrev row : Stored → Stored
row r = r

pub returns : goal.returns
returns c = sorted_stably stored_cmp stored_total _ _
    (c.in_ok-sort_by.ensures.sorted (λ x y. is_lt (stored_cmp (row x) (row y))) (ranks_by stored_total row) (answers_always _ _ _ (λ f a r next called. search rules)))
    (c.in_ok-sort_by.ensures.stable (λ x y. is_lt (stored_cmp (row x) (row y))) (ranks_by stored_total row) (answers_always _ _ _ (λ f a r next called. search rules)))
