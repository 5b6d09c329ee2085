use Rattle.std.proofs.Common.{rules}
use Rattle.audit_row_receipt.proofs.Told.{table_decided, table_refused, told_as}
use Rattle.audit_row_receipt.proofs.check.check_table_receipt.Goals as goal

pub returns-in_ok-all-in-Some : goal.returns-in_ok-all-in-Some
returns-in_ok-all-in-Some g c =
    table_decided (g.H.Hash32.digest c.args.h) c.args.digest.now c.args.r.now c.first_leaf.result.now c.in-Some.table c.tree_root.result c.in_ok-accepted.accepted c.in_ok-all-in-Some.all c.has_root-rooted.result c.are_all.result
    c.requires.some (search rules) (told_as _ _ _ _ _ c.in_ok-table.ensures c.bytes.ensures c.in-Some.is) (search rules) c.in_ok-accepted.ensures (search rules) (search rules) c.are_all.ensures

pub returns-in-None : goal.returns-in-None
returns-in-None g c = table_refused (g.H.Hash32.digest c.args.h) c.args.digest.now c.args.r.now c.first_leaf.result.now c.requires.some (search rules) (told_as _ _ _ _ _ c.in_ok-table.ensures c.bytes.ensures c.in-None.is)
