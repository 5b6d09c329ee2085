use Rattle.std.proofs.Common.{rules, is_lt}
use Rattle.std.proofs.lemmas.List.Sorted.{answers_always, ranks_by}
use Rattle.audit_extract.specs.declared.leaves.Leaf.{Leaf}
use Rattle.audit_extract.specs.Leaves.{leaf_cmp}
use Rattle.audit_extract.proofs.Groups.{leaf_total}
use Rattle.audit_extract.proofs.leaves.sort_leaves.Goals as goal

abbrev itself : Leaf → Leaf
itself l = l

pub returns : goal.returns
returns c = record {
  sorted = c.in_ok-sort_by.ensures.sorted (λ x y. is_lt (leaf_cmp (itself x) (itself y))) (ranks_by leaf_total itself) (answers_always _ _ _ (λ f a r next called. search rules));
  stable = c.in_ok-sort_by.ensures.stable (λ x y. is_lt (leaf_cmp (itself x) (itself y))) (ranks_by leaf_total itself) (answers_always _ _ _ (λ f a r next called. search rules));
}
