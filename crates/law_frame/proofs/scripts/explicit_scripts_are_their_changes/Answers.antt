use Rattle.law_frame.proofs.ChangesMade.{script_made}
use Rattle.law_frame.proofs.scripts.explicit_scripts_are_their_changes.Goals as goal

pub returns : goal.returns
returns c = record { tables = λ reads T tx texts. (script_made tx T reads texts).tables; counter = λ reads T tx texts. (script_made tx T reads texts).count }
