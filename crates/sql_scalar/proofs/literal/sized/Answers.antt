use Rattle.std.proofs.Common.{arith, length}
use Rattle.sql_scalar.proofs.Digits.{whole_room, fraction_room}
use Rattle.sql_scalar.proofs.literal.sized.Goals as goal

pub digits_after-requires : goal.digits_after-requires
digits_after-requires c = whole_room (length c.args.whole.now) (omega arith)

pub digits_after-requires-2 : goal.digits_after-requires-2
digits_after-requires-2 c = fraction_room c.in_ok-size.size (length c.args.whole.now) (length c.args.fraction.now) c.in_ok-size.ensures.small (omega arith)

pub returns-clause-small : goal.returns-clause-small
returns-clause-small c = omega (arith, c.in_ok-size-2.ensures.small, fraction_room c.in_ok-size.size (length c.args.whole.now) (length c.args.fraction.now) c.in_ok-size.ensures.small (omega arith))
