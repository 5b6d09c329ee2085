use Rattle.std.proofs.Common.{rules, arith, refl, ◌+◌, ◌-◌}
use Rattle.audit_verify.proofs.GroupsMerge.{two_groups}
use Rattle.audit_verify.proofs.workers.+faults_of+fn-faults_of-join+arg2+fn-faults_of-join+arg3.Goals as goal

pub returns : goal.returns
returns g t c =
    let front = c.clamp-front.result in
    two_groups (g.H.Hash32.digest c.args.hasher) c.args.from front (c.args.count - front) (c.args.from + front) c.args.count c.args.image.now
    c.in_ok-first.field-0 c.in_ok-second.field-0 c.both.result (search rules) (search rules) refl (omega (arith, c.clamp-front.ensures, c.if-count-le1.false))
    c.both.ensures.root c.both.ensures.version c.both.ensures.index
