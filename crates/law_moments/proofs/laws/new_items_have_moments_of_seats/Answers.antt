use Rattle.law_moments.proofs.Steps.{all_steps, one_step}
use Rattle.law_moments.proofs.laws.new_items_have_moments_of_seats.Goals as goal

pub returns : goal.returns
returns c = record {
  step = λ v past cells then_cells seats then_seats step l there added. one_step v past cells then_cells seats then_seats step l there added;
  steps = λ v past cells then_cells seats then_seats steps l there added. all_steps v past cells seats then_cells then_seats steps l there added;
}
