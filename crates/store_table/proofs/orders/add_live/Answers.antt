use Rattle.store_table.proofs.orders.add_live.Goals as goal

pub returns-clause-room : goal.returns-clause-room
returns-clause-room c = λ n h. record {
  for_keys = c.add_start.ensures.room n h.for_keys;
  for_ends = h.for_ends;
  for_indexes = c.add_start_to_all.ensures.room n h.for_indexes;
}
