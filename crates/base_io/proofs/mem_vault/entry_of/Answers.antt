use Rattle.base_io.proofs.Places.{held_at}
use Rattle.base_io.proofs.mem_vault.entry_of.Goals as goal

pub returns : goal.returns
returns c = held_at c.args.entries.now c.args.name.now c.in_ok-at.at c.index-entries-at.result c.in_ok-at.ensures.place c.index-entries-at.is
