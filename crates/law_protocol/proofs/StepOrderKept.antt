-- Where locks decide in a history of one statement after another, the transcripts that the seats wrote keep step order.
use Rattle.std.proofs.Common.{List, [], length, None, subst}
use Rattle.spec_history.specs.ExactRefusals.{StepOrder}
use Rattle.spec_history.specs.Histories.{IsWhole, SessionsBelow, lines_of, rows_of}
use Rattle.spec_history.specs.Worlds.{first}
use Rattle.law_history.proofs.ByLocks.{exact_refusals}
use Rattle.law_history.proofs.Ordered as ordered
use Rattle.spec_protocol.specs.Cells.{Cell}
use Rattle.spec_protocol.specs.LocksDecideIn.{LocksDecideIn}
use Rattle.spec_protocol.specs.Seats.{SeatState}
use Rattle.spec_protocol.specs.Server.{Server}
use Rattle.spec_protocol.specs.StandTogether.{History, Stands}
use Rattle.spec_protocol.specs.StepOrderThen.{KeepsStepOrder}
use Rattle.law_protocol_ledger.proofs.TheEnd.{below}

pub keeps_order : (v : Server) (history : History) (cells : List Cell) (seats : List SeatState) (st : Stands v history cells seats) → LocksDecideIn v [] history → KeepsStepOrder v history seats st.ledger.items
keeps_order v history cells seats st decide N input X written differ alone ends in_step = subst (StepOrder v.meaning N (lines_of first history) X) st.transcripts_agree.items (record {
  rows = rows_of history;
  order = ordered.keeps_order v.meaning st.ledger.database history st.transcripts_agree.good input None X whole N alone ends in_step;
  lock_refusals = exact_refusals v.meaning st.ledger.database (length X) history st.transcripts_agree.good alone (decide (length X) all alone);
})
  where
    all : SessionsBelow (length X) history
    all = below (length X) history (λ n l. (written.no_others n l).1)

    whole : IsWhole input None X history
    whole = record { sessions = written.sessions; all = all; names_differ = differ; setup_ran = tt }
