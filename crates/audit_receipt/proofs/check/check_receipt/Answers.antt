use Rattle.audit_receipt.proofs.Decided.{answered}
use Rattle.audit_receipt.proofs.check.check_receipt.Goals as goal

pub returns : goal.returns
returns g c =
    answered (g.H.Hash32.digest c.args.h) c.args.r.now c.args.digest.now c.is_own-own.result c.is_led-led.result c.in_ok-stands.stands c.are_all.result
    c.is_own-own.ensures c.is_led-led.ensures c.in_ok-stands.ensures c.are_all.ensures
