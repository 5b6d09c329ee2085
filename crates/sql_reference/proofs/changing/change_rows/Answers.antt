use Rattle.std.proofs.Common.{sym, subst}
use Rattle.spec_model.specs.Catalog.{Tables, defs_of}
use Rattle.sql_reference.specs.Ids.{IdsRise}
use Rattle.sql_reference.proofs.RisingIds.{ready_rise}
use Rattle.sql_reference.proofs.changing.change_rows.Goals as goal

pub change_set-requires : goal.change_set-requires
change_set-requires c =
    subst (λ (T : Tables). IdsRise 0 (defs_of T)) (sym c.deref.ensures.value) (ready_rise c.args.tx c.args.seq c.args.tables.now.items c.requires)
