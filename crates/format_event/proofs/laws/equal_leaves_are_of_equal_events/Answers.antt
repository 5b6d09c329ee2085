use Rattle.format_event.proofs.LeafExact.{equal_leaves, same_leaf, one_leaf}
use Rattle.format_event.proofs.laws.equal_leaves_are_of_equal_events.Goals as goal

pub returns : goal.returns
returns c = record {
  equal = equal_leaves;
  same = same_leaf;
  prefix = λ e f rest ie if_ is. (one_leaf e f rest ie if_ is).1;
}
