use Rattle.std.proofs.Common.{◌∙◌, sym}
use Rattle.sql_parts.proofs.AddedColumns.{place_in_added}
use Rattle.sql_parts.proofs.columns.place_among.Goals as goal

pub returns-clause-place : goal.returns-clause-place
returns-clause-place c = c.place_named.ensures.place ∙ sym (place_in_added c.args.added.now c.args.name.now)
