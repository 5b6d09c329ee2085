use Rattle.std.proofs.Common.{◌≡◌, drop}
use Rattle.std.specs.List.{list_all}
use Rattle.std.specs.Prelude.{◌||◌, not}
use Rattle.std.specs.Ordering.{int_cmp, is_lt}
use Rattle.spec_rules.specs.Places.{stands_before}
use Rattle.spec_rules.specs.Rows.{item_of}
use Rattle.audit_rules.specs.Seen.{row_of, seen}
use Rattle.audit_rules.proofs.indexes.is_after_lower_ones.Given as goal

abbrev pub invariant-loop-other : goal.invariant-loop-other
invariant-loop-other l =
    list_all (λ b. not (is_lt (int_cmp (item_of b) (item_of (row_of l.index)))) || stands_before b.place l.index.place) (seen (drop l.other-index l.indexes))
    ≡ list_all (λ b. not (is_lt (int_cmp (item_of b) (item_of (row_of l.index)))) || stands_before b.place l.index.place) (seen l.indexes)
