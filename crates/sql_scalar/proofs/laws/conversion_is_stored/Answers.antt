use Rattle.sql_value.proofs.Storing.{made_stored}
use Rattle.sql_scalar.proofs.Conversions.{stored_stays}
use Rattle.sql_scalar.proofs.laws.conversion_is_stored.Goals as goal

pub returns : goal.returns
returns c = record { stored = made_stored; kept = stored_stays }
