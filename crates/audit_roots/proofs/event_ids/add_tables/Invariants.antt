use Rattle.std.proofs.Common.{◌≡◌, ◌++◌, flat_map, drop}
use Rattle.audit_roots.specs.EventIds.{ids_shown}
use Rattle.audit_roots.proofs.event_ids.add_tables.Given as goal

abbrev pub invariant-loop-table : goal.invariant-loop-table
invariant-loop-table l = l.ids.items ++ flat_map ids_shown (drop l.table-index l.tables) ≡ l.initial.ids.items ++ flat_map ids_shown l.tables
