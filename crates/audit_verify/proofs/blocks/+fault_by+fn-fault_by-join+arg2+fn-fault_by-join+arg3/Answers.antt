use Rattle.std.proofs.Common.{rules, arith, refl, ◌+◌, ◌-◌}
use Rattle.audit_verify.proofs.BlockParts.{found_in_both}
use Rattle.audit_verify.proofs.blocks.+fault_by+fn-fault_by-join+arg2+fn-fault_by-join+arg3.Goals as goal

pub returns : goal.returns
returns g t c =
    let front = c.clamp-front.result in
    found_in_both (g.H.Hash32.digest c.args.hasher) c.args.image.now c.args.from front (c.args.count - front) (c.args.from + front) c.args.count
    c.in_ok-first.field-0 c.in_ok-second.field-0 c.first_of_two.result (search rules) (search rules) c.first_of_two.ensures
    (omega (arith, c.requires.within, c.clamp-front.ensures, c.if-count-le1.false)) refl (omega (arith, c.clamp-front.ensures, c.if-count-le1.false))
