use Rattle.std.proofs.Common.{sym}
use Rattle.spec_model.specs.Catalog.{defs_of}
use Rattle.sql_reference.proofs.NewTables.{few_found}
use Rattle.sql_reference.proofs.creating.work_out_index.Goals as goal

pub new_index-requires : goal.new_index-requires
new_index-requires c = few_found 65535 (defs_of c.args.tables.now) c.args.c.now.table (c.in-Some.table.now.def, c.in-Some.part) (sym c.in-Some.ensures.part) c.requires
