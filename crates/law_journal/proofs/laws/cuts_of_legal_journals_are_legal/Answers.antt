use Rattle.spec_model.specs.Journals.{cut}
use Rattle.law_journal.proofs.Serials.{legal_tables, cut_legal}
use Rattle.law_journal.proofs.laws.cuts_of_legal_journals_are_legal.Goals as goal

pub returns : goal.returns
returns c = record { legal = cut_legal; tables = λ reads items m h. legal_tables reads (cut items m) (cut_legal reads items m h) }
