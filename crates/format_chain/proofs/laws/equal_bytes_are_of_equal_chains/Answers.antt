use Rattle.format_chain.proofs.ChainExact.{equal_chains}
use Rattle.format_chain.proofs.laws.equal_bytes_are_of_equal_chains.Goals as goal

pub returns : goal.returns
returns c = equal_chains
