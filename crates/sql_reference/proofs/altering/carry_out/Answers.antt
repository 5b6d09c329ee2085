use Rattle.sql_reference.proofs.NewTables.{altered_made, ids_after_rows}
use Rattle.sql_reference.proofs.Ready.{ready_ids}
use Rattle.sql_reference.specs.StatementResult.{altered_of}
use Rattle.sql_reference.proofs.altering.carry_out.Goals as goal

pub redefine-requires : goal.redefine-requires
redefine-requires c =
    let tables = c.args.tables.now.items in
    ids_after_rows c.args.tx c.args.seq c.args.altered.first c.args.altered.second tables c.add_system_rows.new.tables.items
    (ready_ids c.args.tx c.args.seq tables c.requires) c.in_ok-next.ensures.tables

pub returns : goal.returns
returns c =
    altered_made c.args.tables.now.items c.args.tx c.args.seq c.in_ok-next.next (altered_of c.args.altered)
    c.add_system_rows.new.tables.items c.redefine.new.tables.items c.in_ok-next.ensures.tables c.redefine.ensures c.in_ok-next.ensures.next
