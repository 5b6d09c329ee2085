use Rattle.std.proofs.Common.{◌∙◌, arith}
use Rattle.format_chain.specs.ChainReading.{chain_at}
use Rattle.format_chain.proofs.ChainExact.{chain_found, chain_only}
use Rattle.format_chain.proofs.reading.read_chain.Goals as goal

pub returns-clause-found : goal.returns-clause-found
returns-clause-found c =
    chain_found c.args.bytes.now c.in_ok-found.found (λ i. omega (arith, c.type_inv.bytes i)) (c.in_ok-found.ensures.ok chain_at c.args.bytes.now c.chain_at.ensures)

pub returns-clause-only : goal.returns-clause-only
returns-clause-only c = λ r is same. c.in_ok-found.ensures.ok chain_at c.args.bytes.now c.chain_at.ensures ∙ chain_only c.args.bytes.now r is same
