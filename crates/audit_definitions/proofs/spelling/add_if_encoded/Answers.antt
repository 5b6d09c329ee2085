use Rattle.law_catalog_rows.specs.Differs.{is_encoded}
use Rattle.audit_definitions.specs.DefinitionRows.{rows_in}
use Rattle.audit_definitions.proofs.Encoded.{one_spelled, none_spelled}
use Rattle.audit_definitions.proofs.spelling.add_if_encoded.Goals as goal

pub returns-in_ok-push : goal.returns-in_ok-push
returns-in_ok-push c = λ defs.
    one_spelled (is_encoded (rows_in c.args.first.now) (rows_in c.args.second.now) defs) c.args.def.now c.in_ok-is_encoded_with.field-0 c.args.ids.now.items _
    (c.in_ok-is_encoded_with.ensures defs) c.if-branch.true c.in_ok-push.ensures.items

pub returns-else-branch : goal.returns-else-branch
returns-else-branch c = λ defs.
    none_spelled (is_encoded (rows_in c.args.first.now) (rows_in c.args.second.now) defs) c.args.def.now c.in_ok-is_encoded_with.field-0 c.args.ids.now.items
    (c.in_ok-is_encoded_with.ensures defs) c.if-branch.false
