use Rattle.std.proofs.Common.{◌≡◌, drop}
use Rattle.std.specs.List.{list_all}
use Rattle.audit_rules.specs.InTime.{is_in_time}
use Rattle.audit_rules.specs.Seen.{seen}
use Rattle.audit_rules.proofs.indexes.are_made_in_time.Given as goal

abbrev pub invariant-loop-index : goal.invariant-loop-index
invariant-loop-index l =
    list_all (is_in_time (seen l.beside.second_tables.now) (seen l.beside.first_columns.now) (seen l.beside.second_columns.now) (seen l.beside.indexes.now)) (seen (drop l.index-index l.indexes))
    ≡ list_all (is_in_time (seen l.beside.second_tables.now) (seen l.beside.first_columns.now) (seen l.beside.second_columns.now) (seen l.beside.indexes.now)) (seen l.indexes)
