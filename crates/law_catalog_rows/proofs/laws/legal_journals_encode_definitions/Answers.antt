use Rattle.spec_model.specs.Journals.{cut}
use Rattle.law_journal.proofs.Serials.{cut_legal}
use Rattle.law_catalog_rows.proofs.Journals.{legal_written, legal_encoded, legal_passes}
use Rattle.law_catalog_rows.proofs.laws.legal_journals_encode_definitions.Goals as goal

pub returns : goal.returns
returns c = record {
  written = λ reads items m g h. legal_written reads g (cut items m) (cut_legal reads items m h);
  spelled = λ reads items m g h. legal_encoded reads g (cut items m) (cut_legal reads items m h);
  holds = λ reads items m g h. legal_passes reads g (cut items m) (cut_legal reads items m h);
}
