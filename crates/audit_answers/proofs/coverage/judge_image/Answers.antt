use Rattle.std.proofs.Common.{sym, ◌∙◌}
use Rattle.audit_answers.proofs.coverage.judge_image.Goals as goal

pub returns-in-Yes : goal.returns-in-Yes
returns-in-Yes g c = (sym c.in_ok-verdict.ensures ∙ c.in-Yes.is, c.coverage_of.ensures)

pub returns-in-No : goal.returns-in-No
returns-in-No g c = ((λ e. absurd cc), sym c.in-No.is ∙ c.in_ok-verdict.ensures)
