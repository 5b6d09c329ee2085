use Rattle.std.proofs.Common.{◌≡◌, ◌++◌, map, flat_map, drop}
use Rattle.std.specs.List.{All}
use Rattle.audit_roots.specs.Marks.{event_of, events_shown, HasValues}
use Rattle.audit_roots.proofs.marks.add_tables.Given as goal

abbrev pub invariant-loop-table : goal.invariant-loop-table
invariant-loop-table l = record {
  values : All HasValues l.initial.marks.items → All HasValues l.marks.items;
  events : map event_of l.marks.items ++ flat_map events_shown (drop l.table-index l.tables) ≡ map event_of l.initial.marks.items ++ flat_map events_shown l.tables;
}
