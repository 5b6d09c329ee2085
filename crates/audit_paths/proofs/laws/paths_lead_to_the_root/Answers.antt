use Rattle.std.specs.Prelude.{length}
use Rattle.audit_paths.proofs.Leading.{path_leads, path_hashes}
use Rattle.audit_paths.proofs.laws.paths_lead_to_the_root.Goals as goal

pub returns : goal.returns
returns c = record { root = path_leads; hashes = λ h leaves m sized. path_hashes h sized (length leaves) m leaves }
