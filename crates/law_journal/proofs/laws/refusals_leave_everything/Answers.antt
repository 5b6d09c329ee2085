use Rattle.law_journal.proofs.Refusals.{refused_leaves}
use Rattle.law_journal.proofs.laws.refusals_leave_everything.Goals as goal

pub returns : goal.returns
returns c = λ explicit tx x text e is. refused_leaves tx x e explicit text is
