use Rattle.sql_value.proofs.Dates.{day_bound}
use Rattle.sql_scalar.proofs.DayTexts.{day_read}
use Rattle.sql_scalar.proofs.laws.days_are_read_back.Goals as goal

pub returns : goal.returns
returns c = record { read = day_read; within = day_bound }
