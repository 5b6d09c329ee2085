use Rattle.base_types.proofs.Names.{database_short}
use Rattle.format_receipt.proofs.Room.{entry_room}
use Rattle.format_row_receipt.proofs.body.put_body.Goals as goal

pub put_short-requires : goal.put_short-requires
put_short-requires c = rw c.bytes.ensures.value (database_short c.args.r.now.database c.requires.database)

pub put_entry-requires-clause-room : goal.put_entry-requires-clause-room
put_entry-requires-clause-room c = entry_room c.args.r.now.entry c.requires.entry
