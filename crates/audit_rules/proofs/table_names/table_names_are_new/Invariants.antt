use Rattle.std.proofs.Common.{◌≡◌, drop}
use Rattle.std.specs.List.{list_all}
use Rattle.spec_rules.specs.TableNames.{names_are_new}
use Rattle.audit_rules.specs.Seen.{seen}
use Rattle.audit_rules.proofs.table_names.table_names_are_new.Given as goal

abbrev pub invariant-loop-row : goal.invariant-loop-row
invariant-loop-row l =
    list_all (names_are_new (seen l.by_table)) (seen (drop l.row-index l.own)) ≡ list_all (names_are_new (seen l.by_table)) (seen l.own)
