use Rattle.audit_chain.proofs.Histories.{chain_spelled}
use Rattle.audit_chain.proofs.joining.join.Goals as goal

pub returns-clause-spelled : goal.returns-clause-spelled
returns-clause-spelled c =
    rw (c.in_ok-database.ensures, c.in_ok-records.ensures) (chain_spelled c.args.image.now c.requires.image c.args.from c.args.block c.requires.within c.requires.block)
