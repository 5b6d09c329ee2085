use Rattle.audit_definitions.proofs.Verdicts.{same_ok}
use Rattle.audit_verify.proofs.BlockParts.{whole_chain}
use Rattle.audit_verify.proofs.blocks.block_fault_by.Goals as goal

pub returns : goal.returns
returns g c = same_ok _ _ _ (whole_chain (g.H.Hash32.digest c.args.hasher) c.args.image.now c.len.result c.len.ensures) c.fault_by.ensures
