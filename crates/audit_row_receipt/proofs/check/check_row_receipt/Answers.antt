use Rattle.std.proofs.Common.{rules}
use Rattle.audit_row_receipt.proofs.Told.{row_decided, row_refused, told_as}
use Rattle.audit_row_receipt.proofs.check.check_row_receipt.Goals as goal

pub returns-in-Some : goal.returns-in-Some
returns-in-Some g c =
    row_decided (g.H.Hash32.digest c.args.h) c.args.digest.now c.args.r.now c.in-Some.table c.root_over-root.result c.in_ok-accepted.accepted c.has_root-rooted.result c.are_all.result
    (told_as _ _ _ _ _ c.in_ok-table.ensures c.bytes.ensures c.in-Some.is) (search rules) c.in_ok-accepted.ensures (search rules) c.are_all.ensures

pub returns-in-None : goal.returns-in-None
returns-in-None g c = row_refused (g.H.Hash32.digest c.args.h) c.args.digest.now c.args.r.now (told_as _ _ _ _ _ c.in_ok-table.ensures c.bytes.ensures c.in-None.is)
