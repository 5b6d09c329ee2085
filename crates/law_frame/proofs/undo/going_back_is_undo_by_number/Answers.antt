use Rattle.law_frame.proofs.UndoneScripts.{copies_undone, names_undone}
use Rattle.law_frame.proofs.undo.going_back_is_undo_by_number.Goals as goal

pub returns : goal.returns
returns c = record { copies = copies_undone; names = names_undone }
