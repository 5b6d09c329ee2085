use Rattle.law_frame.proofs.LegalSound.{legal_sound}
use Rattle.law_frame.proofs.runs.legal_journals_lead_to_sound_tables.Goals as goal

pub returns : goal.returns
returns c = legal_sound
