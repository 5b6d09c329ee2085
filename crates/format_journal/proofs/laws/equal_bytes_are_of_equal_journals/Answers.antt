use Rattle.format_journal.proofs.JournalExact.{equal_journals, one_journal}
use Rattle.format_journal.proofs.laws.equal_bytes_are_of_equal_journals.Goals as goal

pub returns : goal.returns
returns c = record {
  equal = equal_journals;
  prefix = λ i j rest ii ij is. (one_journal i j rest ii ij is).1;
}
