use Rattle.test_samples.proofs.Worked as laws
use Rattle.test_samples.proofs.samples.journals_are_legal.Goals as goal

pub returns : goal.returns
returns c = record { legal = laws.legal; too_many = laws.too_many }
