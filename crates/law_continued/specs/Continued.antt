-- The cells with which a database goes on, and the seat of its past.
use Rattle.std.specs.Prelude.{ℕ, zero, suc, false, List, [], ◌∷◌}
use Rattle.sql_types.specs.declared.journal.JournalItem.{JournalItem}
use Rattle.spec_model.specs.Journals.{tx_count}
use Rattle.spec_history.specs.Journals.{times}
use Rattle.spec_history.specs.Sessions.{transcript_of}
use Rattle.spec_history.specs.Transcripts.{Transcript}
use Rattle.spec_history.specs.Worlds.{World, first, run}
use Rattle.spec_protocol.specs.Seats.{SeatState, Written, idle}
use Rattle.spec_protocol.specs.Server.{Server}
use Rattle.law_retold.specs.Retold.{Words, retold}
pub use Rattle.spec_continued.specs.Continued.{catalog_of, ledger_with, key_in, order_in, index_with, indexes_in, cell_with, table_cell, table_cells, continued_cells}

-- the transcripts of so many sessions, from number n on
abbrev pub transcripts_from : World → ℕ → ℕ → List Transcript
transcripts_from w n zero = []
transcripts_from w n (suc k) = transcript_of (w.at n) ∷ transcripts_from w (suc n) k

-- what so many sessions wrote, from number n on, with these moments
abbrev pub written_from : World → List ℕ → ℕ → ℕ → List Written
written_from w moments n zero = []
written_from w moments n (suc k) =
    record { transcript = transcript_of (w.at n); images = []; moments = moments; earlier = [] }
    ∷ written_from w moments (suc n) k

-- Nobody sits there. It has the sessions that the journal's items tell, so that each session of the history is
-- some seat's; their moments are the times of the journal.
abbrev pub past_seat : Server → Words → List JournalItem → ℕ → SeatState
past_seat v c J count = record {
  present = false;
  role = idle;
  database = [];
  block_size = 0;
  written = written_from (run first (retold v.reads c J count)) (times J) 0 count;
  least = 0;
  greatest = tx_count J;
  earlier = [];
}
