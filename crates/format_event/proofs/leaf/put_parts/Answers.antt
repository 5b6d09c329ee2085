use Rattle.format_event.proofs.Told.{told_columns}
use Rattle.format_event.proofs.leaf.put_parts.Goals as goal

pub put_columns-requires-clause-fields : goal.put_columns-requires-clause-fields
put_columns-requires-clause-fields c = rw c.as_slice.ensures (told_columns _ c.requires.columns)
