use Rattle.law_behind.proofs.NoPast.{is_past, same_agreement, same_one_order, same_step_order, same_world}
use Rattle.law_behind.proofs.laws.without_a_past_nothing_else_is_meant.Goals as goal

pub returns : goal.returns
returns c = record {
  past = is_past;
  world = same_world;
  agree = λ q db input setup X J G. same_agreement q db input setup X J G;
  step_order = λ q N lines X J. same_step_order q N lines X J;
  one_order = λ q setup X J. same_one_order q setup X J;
}
