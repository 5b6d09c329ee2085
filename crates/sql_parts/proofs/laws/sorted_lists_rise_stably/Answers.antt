use Rattle.sql_parts.proofs.Sorting.{is_sorted, is_stable, same_elements, sorted_stably}
use Rattle.sql_parts.proofs.laws.sorted_lists_rise_stably.Goals as goal

pub returns : goal.returns
returns g c = record {
  rises = λ cmp xs total. is_sorted cmp total xs;
  stable = λ cmp xs total. is_stable cmp total xs;
  same = λ cmp xs total. same_elements cmp total xs;
  only = λ cmp xs ys total up stable. sorted_stably cmp total xs ys up stable;
}
