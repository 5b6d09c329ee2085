use Rattle.format_image.proofs.DefExact.{proper_short}
use Rattle.format_image.proofs.write_definitions.put_index.Goals as goal

pub put_short-requires : goal.put_short-requires
put_short-requires c = rw c.bytes.ensures.value (proper_short c.args.index.now.name c.requires.name)
