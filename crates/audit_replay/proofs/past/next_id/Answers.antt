use Rattle.std.proofs.Common.{arith}
use Rattle.audit_replay.proofs.Onward.{greatest_most}
use Rattle.audit_replay.proofs.past.next_id.Goals as goal

pub overflow_add-result : goal.overflow_add-result
overflow_add-result c = omega (arith, c.greatest_id.ensures, greatest_most c.args.items.now c.requires)

pub returns-clause-most : goal.returns-clause-most
returns-clause-most c = omega (arith, c.greatest_id.ensures, greatest_most c.args.items.now c.requires)
