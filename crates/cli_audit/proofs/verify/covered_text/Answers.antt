use Rattle.std.proofs.Common.{◌∙◌, append_assoc}
use Rattle.cli_audit.proofs.verify.covered_text.Goals as goal

pub returns : goal.returns
returns c = (rw c.in_ok-covers.ensures at c.in_ok-text.ensures.ok) ∙ simp append_assoc
