use Rattle.test_cases.proofs.Found.{is_entry}
use Rattle.test_cases.proofs.records.entry.Goals as goal

pub entry_found-is_one-requires : goal.entry_found-is_one-requires
entry_found-is_one-requires c = is_entry c.args.bytes.now c.in_ok-found.found c.in_ok-found.ensures.found
