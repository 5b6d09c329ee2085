use Rattle.law_server.proofs.CellsShow.{same_tables, same_image, same_bytes}
use Rattle.law_server.proofs.laws.cells_have_the_image_of_their_journal.Goals as goal

pub returns : goal.returns
returns c = record {
  tables = λ v history cells seats st. same_tables v history cells seats st;
  image = λ v history cells seats st. same_image v history cells seats st;
  bytes = λ v history cells seats st. same_bytes v history cells seats st;
}
