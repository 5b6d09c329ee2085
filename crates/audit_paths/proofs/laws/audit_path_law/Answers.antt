use Rattle.audit_paths.proofs.Equations.{path_few, path_front, path_back}
use Rattle.audit_paths.proofs.laws.audit_path_law.Goals as goal

pub returns : goal.returns
returns c = record { few = path_few; front = path_front; back = path_back }
