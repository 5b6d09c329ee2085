use Rattle.law_sequential.proofs.SessionsStand.{inactive_except}
use Rattle.law_sequential.proofs.SessionsStandBehind.{one_seat_on, cells_on}
use Rattle.law_sequential.proofs.sessions_behind.sessions_go_on_behind_a_past.Goals as goal

pub returns : goal.returns
returns g = record {
  one = λ v database size past start phase then_phase lines then_lines moments later told cells then_cells states c j s t k l there was same sequential_run is. one_seat_on c later j s t k l there was same sequential_run is;
  cells = λ v database size past start phase lines moments told cells then_cells states c sequential_run. cells_on c sequential_run;
  quiet = λ v database size past start phase lines moments told cells states c j others. inactive_except c.parent states j c.rests others;
}
