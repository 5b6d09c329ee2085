use Rattle.std.proofs.Common.{sym, subst}
use Rattle.server_ending.specs.Saved.{HasSaved}
use Rattle.server_ending.proofs.Leavings.{saved_of}
use Rattle.server_ending.proofs.leaving.left_by.Goals as goal

pub returns : goal.returns
returns c = subst (HasSaved c.args.finished) (sym c.into_run_outcome.ensures.ran) (saved_of c.args.finished c.in_ok-leave.field-0 c.in_ok-leave.ensures c.into_run_outcome.ensures.next)
