use Rattle.std.proofs.Common.{arith}
use Rattle.store_table.proofs.orders.reserve_orders.Goals as goal

pub returns-clause-room : goal.returns-clause-room
returns-clause-room c = λ n h. record {
  for_keys = c.reserve_index.ensures.room n h.for_keys;
  for_ends = omega (arith, h.for_ends, c.reserve_ends.ensures.room);
  for_indexes = c.reserve_indexes.ensures.room n h.for_indexes;
}
