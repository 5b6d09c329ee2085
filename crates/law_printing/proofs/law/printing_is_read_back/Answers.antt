use Rattle.sql_value.specs.Tree.{tree}
use Rattle.law_printing.proofs.ReadExpr.{untree, tree_untree}
use Rattle.law_printing.proofs.LexStmts.{printed_read}
use Rattle.law_printing.proofs.KeptBodies.{parsed as is_parsed}
use Rattle.law_printing.proofs.law.printing_is_read_back.Goals as goal

pub returns-clause-again : goal.returns-clause-again
returns-clause-again c =
    let read = printed_read c.literals_are_read_back.ensures.written (λ x. c.expressions_are_trees.ensures.same (untree (tree x)) x (tree_untree (tree x))) in
    λ text s is. read s (is_parsed c.literals_are_read_back.ensures.literal text s is)

pub returns-clause-parsed : goal.returns-clause-parsed
returns-clause-parsed c = is_parsed c.literals_are_read_back.ensures.literal

pub returns-clause-read : goal.returns-clause-read
returns-clause-read c = printed_read c.literals_are_read_back.ensures.written (λ x. c.expressions_are_trees.ensures.same (untree (tree x)) x (tree_untree (tree x)))
