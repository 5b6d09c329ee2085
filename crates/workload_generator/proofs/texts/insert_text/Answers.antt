use Rattle.std.proofs.Common.{◌∙◌, append_assoc}
use Rattle.workload_generator.proofs.texts.insert_text.Goals as goal

pub returns : goal.returns
returns c = (rw c.value_of-value.ensures at c.in_ok-format.ensures.ok) ∙ simp append_assoc
