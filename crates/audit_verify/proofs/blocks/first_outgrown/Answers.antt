use Rattle.std.proofs.Common.{arith}
use Rattle.audit_verify.proofs.BlockParts as parts
use Rattle.audit_verify.proofs.blocks.first_outgrown.Goals as goal

pub returns : goal.returns
returns c = λ h. parts.first_outgrown h c.args.image.now c.args.from c.args.count (omega (arith, c.if-count-eq0.false)) c.requires.within c.requires.many
