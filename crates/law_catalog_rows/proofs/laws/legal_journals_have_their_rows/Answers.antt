use Rattle.spec_model.specs.Journals.{cut}
use Rattle.law_journal.proofs.Serials.{cut_legal}
use Rattle.law_catalog_rows.proofs.Journals.{legal_described}
use Rattle.law_catalog_rows.proofs.laws.legal_journals_have_their_rows.Goals as goal

pub returns : goal.returns
returns c = record {
  all = λ reads items m h. (legal_described reads (cut items m) (cut_legal reads items m h)).0;
  formed = λ reads items m h. (legal_described reads (cut items m) (cut_legal reads items m h)).1;
}
