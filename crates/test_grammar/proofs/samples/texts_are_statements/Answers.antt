use Rattle.test_grammar.proofs.Worked.{short, long, levels, grouping, signs, savepoint, append_only, add, drop_column, drop_table}
use Rattle.test_grammar.proofs.samples.texts_are_statements.Goals as goal

pub returns-clause-short : goal.returns-clause-short
returns-clause-short c = short

pub returns-clause-long : goal.returns-clause-long
returns-clause-long c = long

pub returns-clause-levels : goal.returns-clause-levels
returns-clause-levels c = levels

pub returns-clause-grouping : goal.returns-clause-grouping
returns-clause-grouping c = grouping

pub returns-clause-signs : goal.returns-clause-signs
returns-clause-signs c = signs

pub returns-clause-savepoint : goal.returns-clause-savepoint
returns-clause-savepoint c = savepoint

pub returns-clause-table : goal.returns-clause-table
returns-clause-table c = append_only

pub returns-clause-add : goal.returns-clause-add
returns-clause-add c = add

pub returns-clause-drop_column : goal.returns-clause-drop_column
returns-clause-drop_column c = drop_column

pub returns-clause-drop_table : goal.returns-clause-drop_table
returns-clause-drop_table c = drop_table
