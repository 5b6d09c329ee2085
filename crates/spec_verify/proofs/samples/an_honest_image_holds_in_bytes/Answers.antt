use Rattle.spec_verify.proofs.WorkedBytes.{honest_is, nothing_gone, holds_in_bytes, holds_in_bytes_1}
use Rattle.spec_verify.proofs.samples.an_honest_image_holds_in_bytes.Goals as goal

pub returns : goal.returns
returns c = record { spelled = (honest_is, nothing_gone); verdict = holds_in_bytes; first = holds_in_bytes_1 }
