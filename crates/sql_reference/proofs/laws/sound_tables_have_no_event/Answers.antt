use Rattle.sql_reference.proofs.Ready.{sound_new}
use Rattle.sql_reference.proofs.laws.sound_tables_have_no_event.Goals as goal

pub returns : goal.returns
returns c = sound_new
