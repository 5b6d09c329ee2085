use Rattle.law_frame.proofs.LegalRules as laws
use Rattle.law_frame.proofs.journals.legal_journals_keep_the_rules.Goals as goal

pub returns : goal.returns
returns c = record { ids = laws.legal_ids; closes = laws.legal_closes; journal = laws.legal_rules }
