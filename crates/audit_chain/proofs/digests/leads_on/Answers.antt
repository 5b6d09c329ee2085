use Rattle.std.proofs.Common.{rules}
use Rattle.audit_chain.proofs.Decided.{led_on}
use Rattle.audit_chain.proofs.digests.leads_on.Goals as goal

pub returns : goal.returns
returns g c =
    led_on (g.H.Hash32.digest c.args.h) c.args.chain.now c.args.newest.now c.is_equal-own.result c.leads_to-led.result c.are_both.result
    (search rules) (search rules) c.are_both.ensures
