use Rattle.test_samples.proofs.Worked as laws
use Rattle.test_samples.proofs.samples.events_are_numbered.Goals as goal

pub returns : goal.returns
returns c = record {
  starts = laws.starts;
  ends_and_starts = laws.ends_and_starts;
  view = laws.view;
  started_and_ended = laws.started_and_ended;
  its_history = laws.its_history;
  its_events = laws.its_events;
  written_names = laws.written_names;
  units_kept = laws.units_kept;
  units_set = laws.units_set;
  written_history = laws.written_history;
}
