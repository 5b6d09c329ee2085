use Rattle.store_ledger.proofs.OfJournal.{issued_is_digest, issued_is_digest_of}
use Rattle.store_ledger.proofs.laws.issued_digests_are_of_the_journal.Goals as goal

pub returns : goal.returns
returns c = record { meaning = issued_is_digest; digest = issued_is_digest_of }
