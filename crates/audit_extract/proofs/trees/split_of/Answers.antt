use Rattle.std.proofs.Common.{arith}
use Rattle.std.proofs.lemmas.Bool.Decides.{nat_tests}
use Rattle.audit_extract.proofs.Halves.{first_power, next_power, last_power}
use Rattle.audit_extract.proofs.trees.split_of.Goals as goal

pub loop-k-init : goal.loop-k-init
loop-k-init c = first_power c.args.n c.requires.more

pub loop-k-preserved : goal.loop-k-preserved
loop-k-preserved c = next_power c.args.n c.loop-k.k _ c.loop-k.invariant (grind (arith, nat_tests)) (grind (arith, nat_tests))

pub returns : goal.returns
returns c = last_power c.args.n c.loop-k.k c.loop-k.invariant (grind (arith, nat_tests))
