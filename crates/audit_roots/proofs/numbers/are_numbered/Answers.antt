use Rattle.std.proofs.Common.{sym, ap, ◌∙◌, ℕ}
use Rattle.audit_roots.specs.Numbered.{is_range}
use Rattle.std.proofs.lemmas.List.Sorted.{IsNonDecreasingBy-from_sort}
use Rattle.audit_roots.proofs.InRows.{numbered_in_order, numbered_sorted}
use Rattle.audit_roots.proofs.numbers.are_numbered.Goals as goal

pub returns-then-is_range : goal.returns-then-is_range
returns-then-is_range c = sym (numbered_in_order c.args.numbers.now.items (ap (is_range 0) (sym c.deref.ensures.value) ∙ sym c.is_range.ensures ∙ c.if-is_range.true))

pub returns : goal.returns
returns c =
    c.is_range-2.ensures ∙ ap (is_range 0) c.deref-2.ensures.value
    ∙ numbered_sorted c.args.numbers.now.items c.sort_unstable.new.self.items c.sort_unstable.ensures.permutation (IsNonDecreasingBy-from_sort (λ (n : ℕ). n) _ c.sort_unstable.ensures.sorted)
