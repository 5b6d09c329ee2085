use Rattle.law_frame.proofs.Alterations.{altering}
use Rattle.law_frame.proofs.catalog.altered_definitions_keep_keys_and_columns.Goals as goal

pub returns : goal.returns
returns c = altering
