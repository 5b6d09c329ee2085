use Rattle.std.proofs.Common.{IsSorted, sym, subst}
use Rattle.audit_rules.specs.FirstRanks.{happened_cmp}
use Rattle.audit_rules.proofs.times.Times.created_at.Goals as goal

pub first_rank-requires : goal.first_rank-requires
first_rank-requires c = subst (IsSorted happened_cmp) (sym c.deref.ensures.value) c.self.invariant.created
