use Rattle.std.proofs.Common.{◌∙◌, append_assoc}
use Rattle.cli_audit.proofs.extract.collision_text.Goals as goal

pub returns : goal.returns
returns c = (rw (c.in_ok-first.ensures, c.in_ok-second.ensures, c.bytes.ensures, c.bytes-2.ensures) at c.in_ok-text.ensures.ok) ∙ simp append_assoc
