use Rattle.format_event.proofs.Growing.{first_part_stays}
use Rattle.format_event.proofs.leaf.put_each.Goals as goal

pub returns-in_err-put_column-clause-grows : goal.returns-in_err-put_column-clause-grows
returns-in_err-put_column-clause-grows c = first_part_stays c.args.out.now.items _ c.loop-column.out.items c.put_column.new.out.items c.loop-column.invariant c.put_column.ensures.grows
