use Rattle.std.proofs.Common.{◌≡◌, ◌++◌, drop, flat_map}
use Rattle.spec_model.specs.Events.{events_of}
use Rattle.sql_apply.proofs.events.all_events.Given as goal

abbrev pub invariant-loop-table : goal.invariant-loop-table
invariant-loop-table l = l.events.items ++ flat_map (events_of l.tx) (drop l.table-index l.tables) ≡ flat_map (events_of l.tx) l.tables
