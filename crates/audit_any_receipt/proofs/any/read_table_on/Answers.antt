use Rattle.std.proofs.lemmas.Result.{IfOk-weaker}
use Rattle.audit_any_receipt.proofs.AnyKinds.{table_from}
use Rattle.audit_any_receipt.proofs.any.read_table_on.Goals as goal

pub returns-in-None : goal.returns-in-None
returns-in-None c = IfOk-weaker c.read_event_on.result _ _ (table_from c.args.bytes.now (rw c.in-None.is at c.in_ok-receipt.ensures.only)) c.read_event_on.ensures
