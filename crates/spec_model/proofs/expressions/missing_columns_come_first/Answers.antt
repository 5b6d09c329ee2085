use Rattle.spec_model.proofs.Missing as laws
use Rattle.spec_model.proofs.expressions.missing_columns_come_first.Goals as goal

pub returns : goal.returns
returns c = record { missing = laws.missing; others = laws.others; there = laws.there }
