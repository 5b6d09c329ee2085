use Rattle.std.proofs.Common.{rules}
use Rattle.sql_apply.proofs.Retained.{undone_more}
use Rattle.sql_apply.proofs.undoing.undo.Goals as goal

pub loop-table-preserved : goal.loop-table-preserved
loop-table-preserved c =
    undone_more c.args.tx c.args.seq c.args.tables.now.items c.loop-table.table-items c.loop-table.table-index c.table-item.result c.undo_table.new.table
    (search rules) c.table-item.is c.undo_table.ensures c.loop-table.invariant
