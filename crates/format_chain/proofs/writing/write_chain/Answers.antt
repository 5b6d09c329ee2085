use Rattle.base_types.proofs.Names.{database_short}
use Rattle.format_chain.proofs.writing.write_chain.Goals as goal

pub put_short-requires : goal.put_short-requires
put_short-requires c = rw c.bytes.ensures.value (database_short c.args.chain.now.database c.requires.database)
