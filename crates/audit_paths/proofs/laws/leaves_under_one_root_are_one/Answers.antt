use Rattle.audit_paths.proofs.Climbing.{one_leaf}
use Rattle.audit_paths.proofs.laws.leaves_under_one_root_are_one.Goals as goal

pub returns : goal.returns
returns c = λ h a b root p q m n sized hp hq one two. one_leaf h sized a b root p q m n hp hq one two
