use Rattle.format_entry.proofs.EntryExact.{equal_entries, one_entry}
use Rattle.format_entry.proofs.RecordExact.{equal_records, length-record}
use Rattle.format_entry.proofs.laws.equal_bytes_are_of_equal_values.Goals as goal

pub returns : goal.returns
returns c = record {
  entries = equal_entries;
  prefix = λ e f rest ie if_ is. (one_entry e f rest ie if_ is).1;
  records = equal_records;
  size = length-record;
}
