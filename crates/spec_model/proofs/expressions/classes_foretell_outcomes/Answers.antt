use Rattle.spec_model.proofs.Classed as laws
use Rattle.spec_model.proofs.expressions.classes_foretell_outcomes.Goals as goal

pub returns : goal.returns
returns c = laws.foretold
