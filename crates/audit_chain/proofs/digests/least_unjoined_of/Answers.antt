use Rattle.std.proofs.Common.{rules}
use Rattle.audit_chain.proofs.Least.{least_is}
use Rattle.audit_chain.proofs.digests.least_unjoined_of.Goals as goal

pub returns : goal.returns
returns g c = least_is (g.H.Hash32.digest c.args.h) c.args.chain.now c.args.digests.now c.least_unjoined.result (search rules)
