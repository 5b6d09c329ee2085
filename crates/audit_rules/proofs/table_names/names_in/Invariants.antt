use Rattle.std.proofs.Common.{◌≡◌, ◌++◌, drop, map}
use Rattle.spec_model.specs.Rows.{value_or_null}
use Rattle.law_catalog_rows.specs.IsEncodableDef.{names_in}
use Rattle.audit_rules.specs.Seen.{texts}
use Rattle.audit_rules.proofs.table_names.names_in.Given as goal

abbrev pub invariant-loop-value : goal.invariant-loop-value
invariant-loop-value l =
    texts l.names.items ++ names_in (map value_or_null (drop l.value-index l.version.values)) ≡ names_in (map value_or_null l.version.values)
