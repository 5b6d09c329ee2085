use Rattle.std.proofs.Common.{◌∙◌}
use Rattle.sql_parts.proofs.Filled.{filled_by}
use Rattle.sql_parts.proofs.values.add_values.Goals as goal

pub returns : goal.returns
returns c = (rw c.in_ok-add_stored.ensures at c.in_ok-add_nulls.ensures) ∙ filled_by c.args.columns.now c.args.version.now _ _ c.missing.ensures
