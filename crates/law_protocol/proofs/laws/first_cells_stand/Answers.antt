use Rattle.law_protocol.proofs.Beginning.{begins, none_asked, none_requested}
use Rattle.law_protocol.proofs.laws.first_cells_stand.Goals as goal

pub returns : goal.returns
returns c = record { stands = λ v database size some most. begins database size v some most; asked = λ v database size st. none_asked database size v st; wanted = λ v database size. none_requested database size v }
