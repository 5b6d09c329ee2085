use Rattle.std.proofs.Common.{◌≡◌, ◌++◌, ◌+◌, take, drop, length, flat_map}
use Rattle.spec_model.specs.Lists.{numbered}
use Rattle.spec_model.specs.Events.{fields_at, fields_of}
use Rattle.format_event.specs.Leaf.{column_bytes}
use Rattle.format_event.proofs.event_ref.put_each.Given as goal

abbrev pub invariant-loop-place : goal.invariant-loop-place
invariant-loop-place l = record {
  grows : take (length l.initial.out.items) l.out.items ≡ l.initial.out.items;
  so_far : l.out.items ++ flat_map column_bytes (flat_map fields_at (numbered (l.place + 1) (drop l.place l.values))) ≡ l.initial.out.items ++ flat_map column_bytes (fields_of l.values);
}
