use Rattle.base_types.proofs.Names.{session_short}
use Rattle.format_image.proofs.writing.put_entry.Goals as goal

pub put_short-requires : goal.put_short-requires
put_short-requires c = rw c.bytes.ensures.value (session_short c.args.entry.now.principal c.requires.principal)
