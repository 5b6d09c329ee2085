use Rattle.law_journal.proofs.SoFar.{so_far, few, fit_taken, filled_fit, one_more_fits, whole}
use Rattle.law_journal.proofs.rows.rows_fit_so_far.Goals as goal

pub returns : goal.returns
returns c = record { whole = so_far; few = few; taken = fit_taken; filled = filled_fit; one_more = one_more_fits; last = whole }
