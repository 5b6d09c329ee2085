use Rattle.law_continued.proofs.Forms.{forms}
use Rattle.law_continued.proofs.laws.a_journal_that_goes_on_keeps_its_forms.Goals as goal

pub returns : goal.returns
returns c = λ v w database size J count words legal may rules name named ids. forms v w database size J count words legal may rules name named ids
