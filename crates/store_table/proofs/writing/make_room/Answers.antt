use Rattle.std.proofs.Common.{subst}
use Rattle.std.proofs.lemmas.Result.{on_ok_weaker}
use Rattle.sql_types.specs.declared.table.TableDef.{TableDef}
use Rattle.store_tx.specs.Represents.{IsOpen}
use Rattle.store_table.proofs.writing.make_room.Goals as goal

pub returns-clause-open : goal.returns-clause-open
returns-clause-open g c =
    on_ok_weaker c.set_key.result (λ stored. subst (λ (d : TableDef). IsOpen d.id c.open_tree.new.self) c.def.ensures c.in_ok-open_tree.ensures.ok) c.set_key.ensures.ok
