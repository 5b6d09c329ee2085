use Rattle.std.proofs.Common.{◌≡◌, ◌∙◌, Ok, ap, sym, arith}
use Rattle.spec_model.specs.Catalog.{Tables, defs_of}
use Rattle.spec_model.specs.Create.{index_check}
use Rattle.sql_reference.proofs.NewTables.{index_made, ids_after_rows}
use Rattle.sql_reference.proofs.Ready.{ready_ids}
use Rattle.sql_reference.proofs.creating.create_index.Goals as goal

pub add_index-requires : goal.add_index-requires
add_index-requires c =
    let tables = c.args.tables.now.items in
    ids_after_rows c.args.tx c.args.seq c.new.result c.in_ok-id.field-0.starts tables c.add_system_rows.new.tables.items
    (ready_ids c.args.tx c.args.seq tables c.requires) c.in_ok-next.ensures.tables

pub returns : goal.returns
returns c =
    let tables : Tables = c.args.tables.now.items in
    let new = c.in_ok-id.field-0 in
    let changes_worked_out = c.in_ok-id.ensures in
    let checked : index_check (defs_of tables) c.args.c.now ≡ Ok (changes_worked_out.0, new.index) = sym (ap (λ (T : Tables). index_check (defs_of T) c.args.c.now) c.deref.ensures.value) ∙ changes_worked_out.1 in
    index_made tables c.args.tx c.args.seq c.in_ok-next.next c.args.c.now new.id new.index changes_worked_out.0 c.new.result new.starts c.add_system_rows.new.tables.items c.add_index.new.tables.items
    (ready_ids c.args.tx c.args.seq tables c.requires) checked changes_worked_out.2 c.new.ensures changes_worked_out.3 c.in_ok-next.ensures.tables c.in_ok-add_index.ensures
    (omega (arith, c.in_ok-next.ensures.next))
