use Rattle.law_frame.proofs.Definitions as laws
use Rattle.law_frame.proofs.catalog.explicit_scripts_leave_definitions.Goals as goal

pub returns : goal.returns
returns c = record {
  tables = λ reads T tx texts. (laws.opened_keep_defs reads T tx texts).tables;
  copies = λ reads T tx texts. (laws.opened_keep_defs reads T tx texts).saved;
}
