use Rattle.std.proofs.lemmas.Result.{IfOk-weaker}
use Rattle.audit_any_receipt.proofs.AnyKinds.{event_from}
use Rattle.audit_any_receipt.proofs.any.read_event_on.Goals as goal

pub returns-in-None : goal.returns-in-None
returns-in-None c = IfOk-weaker c.read_chain_alone.result _ _ (event_from c.args.bytes.now (rw c.in-None.is at c.in_ok-receipt.ensures.only)) c.read_chain_alone.ensures
