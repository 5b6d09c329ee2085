use Rattle.law_catalog_rows.specs.Differs.{is_encoded}
use Rattle.audit_definitions.specs.DefinitionRows.{rows_in}
use Rattle.audit_definitions.proofs.Encoded.{ids_next}
use Rattle.audit_definitions.proofs.spelling.ids_encoded.Goals as goal

pub loop-def-preserved : goal.loop-def-preserved
loop-def-preserved c =
    let defs = c.args.defs.now in
    ids_next (is_encoded (rows_in c.args.first.now) (rows_in c.args.second.now) defs) defs c.loop-def.def-index c.def-item.result c.loop-def.ids.items _
    c.loop-def-test.true c.def-item.is c.loop-def.invariant (c.in_ok-add_if_encoded.ensures defs)
