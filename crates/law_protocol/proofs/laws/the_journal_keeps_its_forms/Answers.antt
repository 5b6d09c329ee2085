use Rattle.law_protocol.proofs.JournalKept.{legal_journal}
use Rattle.law_protocol.proofs.laws.the_journal_keeps_its_forms.Goals as goal

pub returns : goal.returns
returns c = λ v history cells seats s forms. legal_journal v history cells seats s forms
