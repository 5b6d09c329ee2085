use Rattle.spec_model.proofs.Unknown as laws
use Rattle.spec_model.proofs.expressions.comparison_with_null_is_unknown.Goals as goal

pub returns : goal.returns
returns c = record { left = laws.left; right = laws.right }
