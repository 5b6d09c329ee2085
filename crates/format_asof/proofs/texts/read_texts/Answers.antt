use Rattle.std.proofs.Common.{arith}
use Rattle.std.proofs.lemmas.Grind.{common_steps}
use Rattle.format_asof.proofs.Told.{line_read}
use Rattle.format_asof.proofs.texts.read_texts.Goals as goal

pub loop-rest-preserved-in_ok-push : goal.loop-rest-preserved-in_ok-push
loop-rest-preserved-in_ok-push c = (grind (arith, common_steps, line_read), omega arith)
