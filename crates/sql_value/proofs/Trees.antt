-- The trees of expressions.
use Rattle.std.proofs.Common.{◌≡◌, ◌∙◌, ℕ, List, ap, sym, subst}
use Rattle.std.specs.Prelude.{Bool}
use Rattle.sql_value.specs.declared.value.Value.{Value}
use Rattle.sql_value.specs.declared.expr.Op.{Op}
use Rattle.sql_value.specs.declared.expr.Expr.{Expr, roll-Expr}
use Rattle.sql_value.specs.declared.expr.Expr.TheVariants.{Lit, Col, Neg, Not, IsNull, Bin, rolls-Lit, rolls-Col, rolls-Neg, rolls-Not, rolls-IsNull, rolls-Bin}
use Rattle.sql_value.specs.declared.expr.Expr.TheOpen.{Expr-F}
use Rattle.sql_value.specs.declared.expr.Expr.TheFolds.{ind-Expr, fold-roll-Expr, map-Expr}
use Rattle.sql_value.specs.Tree.{Tree, literal, column, minus, not, is_null, binary, tree, tree_step}

pub of_literal : (v : Value) → tree (Lit v) ≡ literal v
of_literal v = ap tree (sym (rolls-Lit v)) ∙ fold-roll-Expr Tree tree_step (Expr-F.Lit v)

pub of_column : (name : List ℕ) → tree (Col name) ≡ column name
of_column name = ap tree (sym (rolls-Col name)) ∙ fold-roll-Expr Tree tree_step (Expr-F.Col name)

pub of_minus : (a : Expr) → tree (Neg a) ≡ minus (tree a)
of_minus a = ap tree (sym (rolls-Neg a)) ∙ fold-roll-Expr Tree tree_step (Expr-F.Neg a)

pub of_not : (a : Expr) → tree (Not a) ≡ not (tree a)
of_not a = ap tree (sym (rolls-Not a)) ∙ fold-roll-Expr Tree tree_step (Expr-F.Not a)

pub of_is_null : (a : Expr) (negated : Bool) → tree (IsNull a negated) ≡ is_null (tree a) negated
of_is_null a negated = ap tree (sym (rolls-IsNull a negated)) ∙ fold-roll-Expr Tree tree_step (Expr-F.IsNull a negated)

pub of_binary : (op : Op) (a b : Expr) → tree (Bin op a b) ≡ binary op (tree a) (tree b)
of_binary op a b = ap tree (sym (rolls-Bin op a b)) ∙ fold-roll-Expr Tree tree_step (Expr-F.Bin op a b)

-- the expression of a tree
abbrev back : Tree → Expr
back (literal v) = roll-Expr (Expr-F.Lit v)
back (column name) = roll-Expr (Expr-F.Col name)
back (minus a) = roll-Expr (Expr-F.Neg (back a))
back (not a) = roll-Expr (Expr-F.Not (back a))
back (is_null a negated) = roll-Expr (Expr-F.IsNull (back a) negated)
back (binary op a b) = roll-Expr (Expr-F.Bin op (back a) (back b))

abbrev IsBack : Expr → Type 0
IsBack e = back (tree e) ≡ e

abbrev inside : Expr-F ((e : Expr) × IsBack e) → Expr-F Expr
inside = map-Expr ((e : Expr) × IsBack e) Expr (λ e. e.0)

step : (y : Expr-F ((e : Expr) × IsBack e)) → IsBack (roll-Expr (inside y))
step (Expr-F.Lit v) = ap back (fold-roll-Expr Tree tree_step (Expr-F.Lit v))
step (Expr-F.Col name) = ap back (fold-roll-Expr Tree tree_step (Expr-F.Col name))
step (Expr-F.Neg a) = ap back (fold-roll-Expr Tree tree_step (Expr-F.Neg a.0)) ∙ ap (λ x. roll-Expr (Expr-F.Neg x)) a.1
step (Expr-F.Not a) = ap back (fold-roll-Expr Tree tree_step (Expr-F.Not a.0)) ∙ ap (λ x. roll-Expr (Expr-F.Not x)) a.1
step (Expr-F.IsNull a negated) = ap back (fold-roll-Expr Tree tree_step (Expr-F.IsNull a.0 negated)) ∙ ap (λ x. roll-Expr (Expr-F.IsNull x negated)) a.1
step (Expr-F.Bin op a b) =
    ap back (fold-roll-Expr Tree tree_step (Expr-F.Bin op a.0 b.0))
    ∙ ap (λ x. roll-Expr (Expr-F.Bin op x (back (tree b.0)))) a.1 ∙ ap (λ x. roll-Expr (Expr-F.Bin op a.0 x)) b.1

is_back : (e : Expr) → IsBack e
is_back = ind-Expr IsBack (λ x y is. subst (λ (z : Expr-F Expr). IsBack (roll-Expr z)) is (step y))

-- expressions of one tree are one expression
pub same_tree : (a b : Expr) → tree a ≡ tree b → a ≡ b
same_tree a b same = sym (is_back a) ∙ ap back same ∙ is_back b
