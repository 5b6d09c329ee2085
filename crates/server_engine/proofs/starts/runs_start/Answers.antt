use Rattle.server_engine.proofs.StartingCells.{starts_first, starts_later}
use Rattle.server_engine.proofs.starts.runs_start.Goals as goal

pub returns : goal.returns
returns c = record {
  with_none = starts_first c.runs_begin.ensures.with_none;
  with_a_journal = starts_later c.runs_begin.ensures.with_a_journal;
}
