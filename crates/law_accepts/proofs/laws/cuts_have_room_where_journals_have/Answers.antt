use Rattle.law_accepts.proofs.RoomOfCuts.{room_of_cut}
use Rattle.law_accepts.proofs.laws.cuts_have_room_where_journals_have.Goals as goal

pub returns : goal.returns
returns c = room_of_cut
