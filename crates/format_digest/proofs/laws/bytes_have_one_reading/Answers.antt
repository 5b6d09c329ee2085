use Rattle.format_digest.proofs.Readings.{one_reading}
use Rattle.format_digest.proofs.laws.bytes_have_one_reading.Goals as goal

pub returns : goal.returns
returns c = one_reading
