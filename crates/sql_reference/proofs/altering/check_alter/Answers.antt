use Rattle.std.proofs.Common.{sym}
use Rattle.spec_model.specs.Catalog.{defs_of}
use Rattle.sql_reference.proofs.NewTables.{few_found}
use Rattle.sql_reference.proofs.altering.check_alter.Goals as goal

pub altered_table-requires : goal.altered_table-requires
altered_table-requires c = few_found 65535 (defs_of c.args.tables.now) c.altered_name.result.now (c.in-Some.table.now.def, c.in-Some.part) (sym c.in-Some.ensures.part) c.requires
