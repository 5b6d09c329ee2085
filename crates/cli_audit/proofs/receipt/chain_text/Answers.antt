use Rattle.cli_audit.proofs.receipt.chain_text.Goals as goal

pub returns : goal.returns
returns c = rw (c.first_block.ensures, c.last_block.ensures) at c.joined_text.ensures
