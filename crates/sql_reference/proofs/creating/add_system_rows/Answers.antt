use Rattle.std.proofs.Common.{◌+◌, ◌∙◌, ap}
use Rattle.sql_reference.proofs.NewTables.{sound_between}
use Rattle.sql_reference.proofs.creating.add_system_rows.Goals as goal

pub change_table-requires-2-clause-sound : goal.change_table-requires-2-clause-sound
change_table-requires-2-clause-sound c =
    sound_between c.args.tx c.args.seq c.in_ok-between.between 1 c.args.first c.args.tables.now.items c.change_table.new.tables.items c.requires
    (c.in_ok-between.ensures.number ∙ ap (λ n. c.args.seq + n) c.len.ensures) c.in_ok-change_table.ensures
