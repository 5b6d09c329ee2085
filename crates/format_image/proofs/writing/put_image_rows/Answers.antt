use Rattle.std.proofs.Common.{rules}
use Rattle.format_image.proofs.AnyRows.{image_rows, image_tables}
use Rattle.format_image.proofs.writing.put_image_rows.Goals as goal

pub put_tables-requires : goal.put_tables-requires
put_tables-requires c = rw c.as_slice.ensures (image_rows c.args.image.now c.requires)

pub returns : goal.returns
returns c = rw (image_tables c.args.image.now c.requires) (search rules)
