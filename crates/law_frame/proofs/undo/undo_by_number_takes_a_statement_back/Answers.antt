use Rattle.law_frame.proofs.UndoneTables.{whole_undone, part_undone}
use Rattle.law_frame.proofs.undo.undo_by_number_takes_a_statement_back.Goals as goal

pub returns : goal.returns
returns c = record { whole = whole_undone; part = part_undone }
