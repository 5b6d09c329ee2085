use Rattle.std.proofs.Common.{subst₂}
use Rattle.spec_history.specs.Agree.{Agree}
use Rattle.law_history.proofs.Agreed.{agrees}
use Rattle.law_protocol.proofs.InSessionOrder.{in_order_of}
use Rattle.law_protocol_ledger.proofs.Reorders.{reordered_agrees, sessions_long}
use Rattle.law_protocol_ledger.proofs.TheEnd.{below}
use Rattle.law_protocol.proofs.laws.transcripts_agree_in_a_session_order.Goals as goal

pub returns : goal.returns
returns c = λ v history cells seats s input X written differ names session_order.
    let o = in_order_of input X names (sessions_long _ 0 input X written.sessions) session_order in (
      o,
      λ setup ran. reordered_agrees v.meaning s.ledger.database input setup X s.ledger.items s.ledger.issued
          (subst₂ (λ J G. Agree v.meaning s.ledger.database input setup X J G) s.transcripts_agree.items s.transcripts_agree.issued
          (agrees v.meaning s.ledger.database history s.transcripts_agree.good input setup X (record {
            sessions = written.sessions;
            all = below _ history (λ n l. (written.no_others n l).1);
            names_differ = differ;
            setup_ran = ran;
          }))) o.then_input o.then_X o.to o.reordered,
    )
