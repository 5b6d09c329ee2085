use Rattle.std.proofs.Common.{◌≤◌, sym, length, arith}
use Rattle.sql_types.specs.declared.table.TableDef.{TableDef}
use Rattle.spec_model.specs.Catalog.{NamedPart}
use Rattle.store_catalog.proofs.DefsKept.{found_all}
use Rattle.store_catalog.proofs.altering.check_alter.Goals as goal

pub altered_table-requires : goal.altered_table-requires
altered_table-requires c =
    let n : NamedPart = (c.in-Some.def.now, c.in-Some.part) in
    let few = found_all (λ (d : TableDef). length d.columns ≤ 64) c.args.defs.now c.altered_name.result.now n (sym c.in-Some.ensures) c.requires.few in
    omega (arith, few)
