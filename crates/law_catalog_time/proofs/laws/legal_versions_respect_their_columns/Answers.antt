use Rattle.law_catalog_time.proofs.Journals.{legal_respects}
use Rattle.law_catalog_time.proofs.laws.legal_versions_respect_their_columns.Goals as goal

pub returns : goal.returns
returns c = λ reads items legal. legal_respects reads items legal
