use Rattle.cli_commands.proofs.part.receipt_of_part.Goals as goal

pub returns-clause-shown : goal.returns-clause-shown
returns-clause-shown g c = rw c.wanted_of-wanted.ensures at c.make_receipt.ensures.shown
