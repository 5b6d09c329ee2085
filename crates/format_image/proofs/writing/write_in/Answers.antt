use Rattle.base_types.proofs.Names.{database_short}
use Rattle.format_image.proofs.writing.write_in.Goals as goal

pub put_short-requires : goal.put_short-requires
put_short-requires c = rw c.bytes.ensures.value (database_short c.args.image.now.database c.requires.database)
