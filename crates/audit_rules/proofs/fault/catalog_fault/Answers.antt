use Rattle.std.proofs.Common.{◌∙◌}
use Rattle.audit_rules.proofs.Verdicts.{place_is}
use Rattle.audit_rules.proofs.fault.catalog_fault.Goals as goal

pub returns : goal.returns
returns c =
    c.table_place.ensures
    ∙ place_is c.args.image.now c.as_slice-entries.result.now c.in_ok-catalog.catalog _ _ _ _ c.as_slice-entries.ensures c.base_at.ensures c.base_at-2.ensures c.as_slice.ensures c.in_ok-catalog.ensures c.in_ok-worst.ensures
