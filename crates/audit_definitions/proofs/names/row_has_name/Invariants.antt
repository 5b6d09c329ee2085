use Rattle.std.proofs.Common.{◌≡◌, drop, map}
use Rattle.spec_model.specs.Lists.{has_name}
use Rattle.spec_model.specs.Rows.{value_or_null}
use Rattle.law_catalog_rows.specs.IsEncodableDef.{names_in}
use Rattle.audit_definitions.proofs.names.row_has_name.Given as goal

abbrev pub invariant-loop-value : goal.invariant-loop-value
invariant-loop-value l =
    has_name (names_in (map value_or_null (drop l.value-index l.version.values))) l.name ≡ has_name (names_in (map value_or_null l.version.values)) l.name
