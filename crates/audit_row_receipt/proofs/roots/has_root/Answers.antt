use Rattle.audit_row_receipt.proofs.Told.{root_decided}
use Rattle.audit_row_receipt.proofs.roots.has_root.Goals as goal

pub returns : goal.returns
returns c = root_decided c.args.root.now _ _ c.is_root_at.ensures
