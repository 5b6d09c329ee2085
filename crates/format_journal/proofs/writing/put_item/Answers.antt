use Rattle.base_types.proofs.Names.{session_short}
use Rattle.format_journal.proofs.writing.put_item.Goals as goal

pub put_short-requires : goal.put_short-requires
put_short-requires c = rw c.bytes.ensures.value (session_short c.in-Tx.session (rw c.in-Tx.is at c.requires).rules.session)
