use Rattle.std.proofs.Common.{◌∙◌, ap, refl}
use Rattle.std.specs.Prelude.{◌&&◌}
use Rattle.audit_definitions.proofs.RuleGroups.{groups}
use Rattle.audit_definitions.proofs.rules.is_encodable_def.Goals as goal

pub returns : goal.returns
returns c =
    c.both_hold.ensures
    ∙ ap (λ t. t && c.has_right_indexes-has_indexes.result) c.has_right_columns_and_names-named.ensures
    ∙ groups c.args.def.now c.as_slice-columns.result.now c.deref.result.now c.as_slice.result.now _ _ _ refl refl c.has_right_indexes-has_indexes.ensures
    c.as_slice-columns.ensures (c.deref.ensures.value ∙ c.in_ok-positions.ensures) c.as_slice.ensures
