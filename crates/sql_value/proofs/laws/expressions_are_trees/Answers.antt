use Rattle.sql_value.proofs.Trees as laws
use Rattle.sql_value.proofs.laws.expressions_are_trees.Goals as goal

pub returns : goal.returns
returns c = record {
  literal = laws.of_literal;
  column = laws.of_column;
  minus = laws.of_minus;
  inverse = laws.of_not;
  null_test = laws.of_is_null;
  binary = laws.of_binary;
  same = laws.same_tree;
}
