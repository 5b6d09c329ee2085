use Rattle.std.proofs.Common.{◌≡◌, ◌++◌, ◌∷◌, ◌∙◌, List, [], Ok, ap, sym, arith}
use Rattle.sql_types.specs.declared.version.Version.{Version}
use Rattle.spec_model.specs.Catalog.{Tables, defs_of}
use Rattle.spec_model.specs.Create.{create_check}
use Rattle.sql_reference.proofs.NewTables.{table_made}
use Rattle.sql_reference.proofs.creating.create_table.Goals as goal

pub returns : goal.returns
returns c =
    let tables : Tables = c.args.tables.now.items in
    let def = c.in_ok-def.def in
    let first = c.in_ok-first.first in
    let second = c.in_ok-second.second in
    let rows : Tables = c.add_system_rows.new.tables.items in
    let made : create_check (defs_of tables) c.args.c.now ≡ Ok def = sym (ap (λ (T : Tables). create_check (defs_of T) c.args.c.now) c.deref.ensures.value) ∙ c.in_ok-def.ensures in
    let added = c.in_ok-push.ensures.items ∙ ap (λ (versions : List Version). rows ++ record { def = def; versions = versions } ∷ []) c.new.ensures in
    table_made tables c.args.tx c.args.seq c.in_ok-next.next (create_check (defs_of tables) c.args.c.now) def first second rows c.push.new.self.items
    made c.in_ok-first.ensures c.in_ok-second.ensures c.in_ok-next.ensures.tables added
    (omega (arith, c.in_ok-next.ensures.next))
