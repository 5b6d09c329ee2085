use Rattle.sql_scalar.proofs.RoundTrip.{literal_read, shown_read, day_shown}
use Rattle.sql_scalar.proofs.ReadValues.{read_is_literal}
use Rattle.sql_scalar.proofs.laws.literals_are_read_back.Goals as goal

pub returns : goal.returns
returns c = record { literal = read_is_literal; written = literal_read; shown = shown_read; days = day_shown }
