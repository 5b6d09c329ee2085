use Rattle.store_table.proofs.Carrying.{Carrying}
use Rattle.store_table.proofs.version_store.VersionStore.carry_out.Given as goal

abbrev pub invariant-loop-change : goal.invariant-loop-change
invariant-loop-change l = Carrying l.tx l.seq l.number l.fn.changes l.change-iterator.rest.items l.fn.self l.self
