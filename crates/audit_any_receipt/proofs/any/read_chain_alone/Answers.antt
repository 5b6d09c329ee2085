use Rattle.audit_any_receipt.proofs.AnyKinds.{chain_from}
use Rattle.audit_any_receipt.proofs.any.read_chain_alone.Goals as goal

pub returns-in-None : goal.returns-in-None
returns-in-None c = chain_from c.args.bytes.now (rw c.in-None.is at c.in_ok-chain.ensures.only)
