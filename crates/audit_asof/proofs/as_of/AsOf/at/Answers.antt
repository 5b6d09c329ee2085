use Rattle.std.proofs.Common.{List, subst, sym}
use Rattle.sql_types.specs.declared.version.Table.{Table}
use Rattle.spec_model.specs.Catalog.{defs_of}
use Rattle.sql_reference.specs.Ids.{IdsRise}
use Rattle.audit_asof.proofs.Opened.{opened_rise}
use Rattle.audit_asof.proofs.as_of.AsOf.at.Goals as goal

pub invariant_of-result : goal.invariant_of-result
invariant_of-result c =
    subst (λ (tables : List Table). IdsRise 0 (defs_of tables)) (sym c.in_ok-open_tables.ensures)
    (opened_rise c.args.image c.requires.image _ _ c.in_ok-tables.ensures)
