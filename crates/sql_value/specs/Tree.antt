-- An expression as a tree of plain data, on which definitions compute.
use Rattle.std.specs.Prelude.{ℕ, List, Bool}
use Rattle.sql_value.specs.declared.value.Value.{Value}
use Rattle.sql_value.specs.declared.expr.Op.{Op}
use Rattle.sql_value.specs.declared.expr.Expr.{Expr}
use Rattle.sql_value.specs.declared.expr.Expr.TheOpen.{Expr-F}
use Rattle.sql_value.specs.declared.expr.Expr.TheFolds.{fold-Expr}

-- a literal, a column, a negation, an inversion, a test for NULL (negated or not), or an operator with its
-- operands
pub data Tree : Type 0 where
  literal : Value → Tree
  column : List ℕ → Tree
  minus : Tree → Tree
  not : Tree → Tree
  is_null : Tree → Bool → Tree
  binary : Op → Tree → Tree → Tree

abbrev pub tree_step : Expr-F Tree → Tree
tree_step (Expr-F.Lit v) = literal v
tree_step (Expr-F.Col name) = column name
tree_step (Expr-F.Neg a) = minus a
tree_step (Expr-F.Not a) = not a
tree_step (Expr-F.IsNull a negated) = is_null a negated
tree_step (Expr-F.Bin op a b) = binary op a b

-- the tree of an expression
abbrev pub tree : Expr → Tree
tree = fold-Expr Tree tree_step
