use Rattle.std.proofs.Common.{◌≡◌, drop}
use Rattle.std.specs.List.{list_any}
use Rattle.spec_model.specs.Lists.{has_name}
use Rattle.spec_rules.specs.Places.{PlacedRow}
use Rattle.spec_rules.specs.TableNames.{names_of_table}
use Rattle.audit_rules.specs.InForce.{any_standing}
use Rattle.audit_rules.specs.Seen.{seen, texts}
use Rattle.audit_rules.proofs.table_names.is_one_standing.Given as goal

abbrev pub invariant-loop-at : goal.invariant-loop-at
invariant-loop-at l =
    any_standing (λ (b : PlacedRow). list_any (has_name (names_of_table b)) (texts l.names)) l.place (seen (drop l.at l.by_table))
    ≡ any_standing (λ (b : PlacedRow). list_any (has_name (names_of_table b)) (texts l.names)) l.place (seen l.by_table)
