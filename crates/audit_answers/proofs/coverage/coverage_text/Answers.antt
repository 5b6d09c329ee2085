use Rattle.std.proofs.Common.{◌∙◌, append_assoc}
use Rattle.audit_answers.proofs.coverage.coverage_text.Goals as goal

pub returns : goal.returns
returns c = (rw c.in_ok-blocks.ensures at c.in_ok-text.ensures.ok) ∙ simp append_assoc
