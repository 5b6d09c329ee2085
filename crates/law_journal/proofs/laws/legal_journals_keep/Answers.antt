use Rattle.law_journal.proofs.Serials.{legal_tables, legal_described}
use Rattle.law_journal.proofs.laws.legal_journals_keep.Goals as goal

pub returns : goal.returns
returns c = record { tables = legal_tables; described = legal_described }
