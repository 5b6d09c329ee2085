use Rattle.format_image.proofs.DefExact.{proper_short, history_short}
use Rattle.format_image.proofs.write_definitions.put_names.Goals as goal

pub put_short-requires : goal.put_short-requires
put_short-requires c = rw c.bytes.ensures.value (proper_short c.args.def.now.name c.requires.name)

pub put_short-requires-2 : goal.put_short-requires-2
put_short-requires-2 c = rw c.bytes-2.ensures.value (history_short c.args.def.now.kind c.args.def.now.history c.requires.history)

pub put_short-requires-3 : goal.put_short-requires-3
put_short-requires-3 c = rw c.bytes-3.ensures.value (proper_short c.args.def.now.view c.requires.view)
