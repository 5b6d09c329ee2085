use Rattle.std.proofs.lemmas.Result.{IfOk-weaker}
use Rattle.audit_any_receipt.proofs.AnyKinds.{any_from}
use Rattle.audit_any_receipt.proofs.any.read_any.Goals as goal

pub returns-in-None : goal.returns-in-None
returns-in-None c = IfOk-weaker c.read_table_on.result _ _ (any_from c.args.bytes.now (rw c.in-None.is at c.in_ok-receipt.ensures.only)) c.read_table_on.ensures
