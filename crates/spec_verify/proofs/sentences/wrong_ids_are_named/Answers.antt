use Rattle.spec_verify.proofs.AllTold.{entry_first, else_event, no_id_fault_exactly}
use Rattle.spec_verify.proofs.ToldEntries.{ids_told, events_told}
use Rattle.spec_verify.proofs.sentences.wrong_ids_are_named.Goals as goal

pub returns : goal.returns
returns c = record {
  repeated = ids_told;
  strangers = events_told;
  entry_first = entry_first;
  else_event = else_event;
  nothing = no_id_fault_exactly;
}
