use Rattle.audit_verify.proofs.TableIndexes.{first_is, have_few_indexes}
use Rattle.audit_definitions.proofs.Verdicts.{same_ok}
use Rattle.audit_verify.proofs.indexes.index_fault.Goals as goal

pub fault_among-requires : goal.fault_among-requires
fault_among-requires c = have_few_indexes c.args.tables.now c.args.image.now c.requires.tables c.requires.image

pub returns : goal.returns
returns c = same_ok _ _ _ (first_is c.args.tables.now c.args.image.now c.requires.tables) c.fault_among.ensures
