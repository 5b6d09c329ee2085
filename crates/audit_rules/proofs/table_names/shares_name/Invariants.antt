use Rattle.std.proofs.Common.{◌≡◌, drop}
use Rattle.std.specs.List.{list_any}
use Rattle.spec_model.specs.Lists.{has_name}
use Rattle.spec_rules.specs.TableNames.{names_of_table}
use Rattle.audit_rules.specs.Seen.{row_of, texts}
use Rattle.audit_rules.proofs.table_names.shares_name.Given as goal

abbrev pub invariant-loop-name : goal.invariant-loop-name
invariant-loop-name l =
    list_any (has_name (names_of_table (row_of l.row))) (texts (drop l.name-index l.names))
    ≡ list_any (has_name (names_of_table (row_of l.row))) (texts l.names)
