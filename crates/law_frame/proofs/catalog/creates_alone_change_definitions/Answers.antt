use Rattle.law_frame.proofs.Definitions as laws
use Rattle.law_frame.proofs.catalog.creates_alone_change_definitions.Goals as goal

pub returns : goal.returns
returns c = record { statement = laws.defs_after; transaction = laws.one_keeps_defs }
