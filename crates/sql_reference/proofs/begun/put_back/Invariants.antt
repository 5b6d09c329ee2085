use Rattle.std.proofs.Common.{◌≡◌, ◌≤◌, ◌+◌, ◌++◌, take, drop, length}
use Rattle.sql_reference.specs.Seen.{with_defs}
use Rattle.sql_reference.proofs.begun.put_back.Given as goal

abbrev pub invariant-loop-def : goal.invariant-loop-def
invariant-loop-def l = record {
  room : l.place + length l.def-iterator.rest.items ≤ length l.tables.items;
  so_far : take l.place l.tables.items ++ with_defs l.def-iterator.rest.items (drop l.place l.tables.items) ≡ with_defs l.fn.defs l.fn.tables.items;
}
