use Rattle.law_concurrent.proofs.Meets.{comes_to}
use Rattle.law_concurrent.proofs.laws.runs_of_joined_seats_agree.Goals as goal

pub returns : goal.returns
returns c = λ v cells w ws joined knew apart ledger there. comes_to c.histories_are_in_one_order.ensures v cells w ws joined knew apart ledger there
