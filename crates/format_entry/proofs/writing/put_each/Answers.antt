use Rattle.format_entry.proofs.Growing.{first_part_stays}
use Rattle.format_entry.proofs.writing.put_each.Goals as goal

pub returns-in_err-put_root-clause-grows : goal.returns-in_err-put_root-clause-grows
returns-in_err-put_root-clause-grows c = first_part_stays c.args.out.now.items _ c.loop-root.out.items c.put_root.new.out.items c.loop-root.invariant c.put_root.ensures.grows
