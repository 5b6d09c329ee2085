use Rattle.std.proofs.Common.{rules}
use Rattle.audit_chain.proofs.Decided.{joined}
use Rattle.audit_chain.proofs.check.check_chain.Goals as goal

pub returns : goal.returns
returns g c =
    joined (g.H.Hash32.digest c.args.h) c.args.chain.now c.args.older.now c.args.newer.now c.is_equal-of_older.result c.is_equal-of_newer.result c.leads_to-led.result c.is_equal-begins.result c.are_all.result
    (search rules) (search rules) (search rules) (search rules) c.are_all.ensures
