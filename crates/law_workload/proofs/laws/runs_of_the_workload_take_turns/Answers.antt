use Rattle.law_workload.proofs.Whole.{all_in_turns}
use Rattle.law_workload.proofs.laws.runs_of_the_workload_take_turns.Goals as goal

pub returns : goal.returns
returns c = λ q database rows X items G known few rules agree many.
    all_in_turns c.statements_law.ensures.count q database rows X items G known few rules agree many
