use Rattle.law_frame.proofs.LeftTables.{left_key, left_table}
use Rattle.law_frame.proofs.agreement.statements_leave_what_they_dont_request.Goals as goal

pub returns : goal.returns
returns c = record { keys = λ T tx seq id key stmt sound h. left_key tx seq T id sound key stmt h; tables = λ T tx seq id stmt h. left_table tx seq T id stmt h }
