use Rattle.law_frame.proofs.SoundStatements.{first_sound, statement_sound}
use Rattle.law_frame.proofs.runs.statements_keep_tables_sound.Goals as goal

pub returns : goal.returns
returns c = record { first = first_sound; statement = λ T tx seq stmt h. statement_sound tx seq T stmt h }
