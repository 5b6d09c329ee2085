use Rattle.std.proofs.Common.{◌∙◌, append_assoc}
use Rattle.audit_rules.proofs.names.dropped_name.Goals as goal

pub returns : goal.returns
returns c = c.in_ok-format.ensures.ok ∙ simp append_assoc
