use Rattle.std.proofs.Common.{IsSorted, sym, subst}
use Rattle.sql_parts.proofs.Sorting.{is_sorted}
use Rattle.audit_rules.specs.FirstRanks.{happened_cmp}
use Rattle.audit_rules.proofs.Happenings.{happened_total}
use Rattle.audit_rules.proofs.times.all_happened.Goals as goal

pub returns-clause-sorted : goal.returns-clause-sorted
returns-clause-sorted c = subst (IsSorted happened_cmp) (sym c.in_ok-sort_by_thing.ensures) (is_sorted happened_cmp happened_total c.in_ok-all.all.items)
