use Rattle.law_concurrent.proofs.MeetsBehind.{comes_to}
use Rattle.law_concurrent.proofs.behind.joined_runs_behind_a_past_agree.Goals as goal

pub returns : goal.returns
returns c = λ v database size past start cells w ws joined knew apart ledger there.
    comes_to c.transcripts_agree_behind_the_past.ensures c.agreement_behind_a_past_is_of_any_order.ensures start cells w ws joined knew apart ledger there
