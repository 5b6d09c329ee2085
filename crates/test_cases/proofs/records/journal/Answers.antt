use Rattle.test_cases.proofs.Found.{is_journal}
use Rattle.test_cases.proofs.records.journal.Goals as goal

pub journal_found-is_one-requires : goal.journal_found-is_one-requires
journal_found-is_one-requires c = is_journal c.args.bytes.now c.in_ok-found.found c.in_ok-found.ensures.found
