-- Step order at the end, where the history takes one statement after another.
use Rattle.std.specs.Prelude.{ℕ, List}
use Rattle.sql_types.specs.declared.journal.JournalItem.{JournalItem}
use Rattle.spec_history.specs.ExactRefusals.{StepOrder}
use Rattle.spec_history.specs.Histories.{ClosesInStep, EndsComeLast, OneAtATime, lines_of, pending}
use Rattle.spec_history.specs.Inputs.{InputSession}
use Rattle.spec_history.specs.Transcripts.{Transcript}
use Rattle.spec_history.specs.Worlds.{first}
use Rattle.spec_protocol.specs.AtTheEnd.{AreWritten, SessionsDiffer}
use Rattle.spec_protocol.specs.Seats.{SeatState}
use Rattle.spec_protocol.specs.Server.{Server}
use Rattle.spec_protocol.specs.StandTogether.{History}

-- where the history takes one statement after another, ends its sessions behind the last, and closes a block
-- as soon as N entries are pending and what is pending for a digest, the transcripts that the seats wrote are
-- one list, and in it E20 comes exactly where a lock is in the way, unless it is NoMemory
abbrev pub KeepsStepOrder : Server → History → List SeatState → List JournalItem → Type 0
KeepsStepOrder v history seats items = (N : ℕ) (input : List InputSession) (X : List Transcript)
    → AreWritten history seats input X → SessionsDiffer X → OneAtATime first history
    → EndsComeLast first history → ClosesInStep N (pending 0) history
    → StepOrder v.meaning N (lines_of first history) X items
