use Rattle.std.proofs.Common.{ap, ap₂, ◌∙◌}
use Rattle.spec_verify.specs.Definitions.{table_place}
use Rattle.law_catalog_rows.specs.Differs.{encoding_fault}
use Rattle.audit_definitions.specs.DefinitionRows.{rows_in}
use Rattle.audit_definitions.proofs.Encoded.{definitions_are}
use Rattle.audit_definitions.proofs.Verdicts.{same_ok}
use Rattle.audit_definitions.proofs.spelling.definition_fault.Goals as goal

pub returns : goal.returns
returns c =
    let i = c.args.image.now in
    same_ok _ _ _
    (ap (λ defs. table_place (encoding_fault (rows_in c.base_at.result.now) (rows_in c.base_at-2.result.now) defs)) c.as_slice-defs.ensures
    ∙ ap₂ (λ first second. table_place (encoding_fault (rows_in first) (rows_in second) i.defs)) c.base_at.ensures c.base_at-2.ensures
    ∙ definitions_are i)
    c.fault_of.ensures
