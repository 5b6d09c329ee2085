use Rattle.law_catalog_time.proofs.Journals.{legal_follows}
use Rattle.law_catalog_time.proofs.laws.legal_versions_start_after_their_columns.Goals as goal

pub returns : goal.returns
returns c = λ reads items legal. legal_follows reads items legal
