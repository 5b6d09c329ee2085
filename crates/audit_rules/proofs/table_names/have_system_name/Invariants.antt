use Rattle.std.proofs.Common.{◌≡◌, drop}
use Rattle.std.specs.List.{list_any}
use Rattle.std.specs.Prelude.{◌∷◌, []}
use Rattle.spec_model.specs.Create.{all_names}
use Rattle.spec_model.specs.Lists.{has_name}
use Rattle.spec_model.specs.SystemTables.{tables_def, columns_def}
use Rattle.audit_rules.specs.Seen.{texts}
use Rattle.audit_rules.proofs.table_names.have_system_name.Given as goal

abbrev pub invariant-loop-name : goal.invariant-loop-name
invariant-loop-name l =
    list_any (has_name (all_names (tables_def ∷ columns_def ∷ []))) (texts (drop l.name-index l.names))
    ≡ list_any (has_name (all_names (tables_def ∷ columns_def ∷ []))) (texts l.names)
