use Rattle.law_frame.proofs.UndoneScripts.{script_sound, copies_sound}
use Rattle.law_frame.proofs.runs.explicit_scripts_keep_tables_sound.Goals as goal

pub returns : goal.returns
returns c = record { tables = script_sound; copies = copies_sound }
