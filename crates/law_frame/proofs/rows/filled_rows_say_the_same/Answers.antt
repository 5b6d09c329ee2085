use Rattle.spec_model.specs.Rows.{values_of}
use Rattle.law_frame.proofs.Filled.{filled_fields, filled_at, filled_key}
use Rattle.law_frame.proofs.rows.filled_rows_say_the_same.Goals as goal

pub returns : goal.returns
returns c = record { fields = filled_fields; values = filled_at; key = λ columns v. filled_key columns columns (values_of v) }
