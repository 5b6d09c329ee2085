-- Printed expressions are read as themselves.
use Rattle.std.proofs.Common.{◌≡◌, ◌∙◌, ◌==◌, ℕ, suc, ◌+◌, ◌-◌, ◌<◌, false, List, Option, Some, None, refl, ap, arith}
use Rattle.std.proofs.lemmas.Bool.Decides.{nat_tests}
use Rattle.sql_value.specs.declared.expr.Op.{Op}
use Rattle.sql_value.specs.declared.expr.Expr.{Expr}
use Rattle.sql_value.specs.declared.expr.Expr.TheVariants.{Lit, Col, Neg, Not, IsNull, Bin}
use Rattle.sql_value.specs.Tree.{Tree, literal, column, minus, not, is_null, binary, tree}
use Rattle.spec_syntax.specs.declared.tag.Tag.{Tag}
use Rattle.spec_syntax.specs.declared.tag.Tag.TheVariants as t
use Rattle.spec_syntax.specs.declared.level.Level.TheVariants as l
use Rattle.spec_syntax.specs.Input.{Input, Sym, Parser, tag, next, sees, spend, repeated}
use Rattle.spec_syntax.specs.Expr as e
use Rattle.spec_syntax.specs.Expr.{operator, comparison, more, grouped, prim, unary, product, sum, cmp, and, or}
use Rattle.law_printing.proofs.Repeats.{at_, left_}
use Rattle.sql_value.proofs.Trees.{of_literal, of_column, of_minus, of_not, of_is_null, of_binary}

-- the expression of a tree
abbrev pub untree : Tree → Expr
untree (literal v) = Lit v
untree (column n) = Col n
untree (minus a) = Neg (untree a)
untree (not a) = Not (untree a)
untree (is_null a negated) = IsNull (untree a) negated
untree (binary o a b) = Bin o (untree a) (untree b)

pub tree_untree : (a : Tree) → tree (untree a) ≡ a
tree_untree (literal v) = of_literal v
tree_untree (column n) = of_column n
tree_untree (minus a) = of_minus (untree a) ∙ ap minus (tree_untree a)
tree_untree (not a) = of_not (untree a) ∙ ap not (tree_untree a)
tree_untree (is_null a negated) = of_is_null (untree a) negated ∙ ap (λ x. is_null x negated) (tree_untree a)
tree_untree (binary o a b) =
    of_binary o (untree a) (untree b) ∙ ap (λ x. binary o x (tree (untree b))) (tree_untree a) ∙ ap (λ x. binary o a x) (tree_untree b)

pub spent : (rest : List Sym) (n : ℕ) → 0 < n → spend (at_ rest n) ≡ Some (tt, at_ rest (n - 1))
unfolding spend
spent rest n some = let is : (n == 0) ≡ false = grind (arith, nat_tests, some) in rw is refl

-- ---- one level and the next

module _ (operators : Tag → Option Op) (operand : Parser Expr) where
  more_ends : (n : ℕ) (a : Expr) (j : Input) → operators (tag j) ≡ None → more operators operand (suc n) a j ≡ Some (a, j)
  unfolding more
  more_ends n a j is = rw is refl

  pub grouped_ends : (i j : Input) (a : Expr) → operand i ≡ Some (a, j) → operators (tag j) ≡ None → grouped operators operand i ≡ Some (a, j)
  grouped_ends i j a read is =
      let one : j.left + 1 ≡ suc j.left = omega arith in
      rw read (ap (λ n. more operators operand n a j) one ∙ more_ends j.left a j is)

  turn : (n : ℕ) (a b : Expr) (o : Op) (j k m : Input) → operators (tag j) ≡ Some o → spend (next j) ≡ Some (tt, k) → operand k ≡ Some (b, m)
      → more operators operand (suc n) a j ≡ more operators operand n (Bin o a b) m
  unfolding more
  turn n a b o j k m is paid read = rw is (rw paid (rw read refl))

  pub grouped_binary : (i j k m : Input) (a b : Expr) (o : Op) → operand i ≡ Some (a, j) → operators (tag j) ≡ Some o → 0 < j.left → spend (next j) ≡ Some (tt, k) → operand k ≡ Some (b, m)
      → operators (tag m) ≡ None → grouped operators operand i ≡ Some (Bin o a b, m)
  grouped_binary i j k m a b o first is some paid second ends =
      let one : j.left + 1 ≡ suc (suc (j.left - 1)) = omega (arith, some) in
      rw first (ap (λ n. more operators operand n a j) one ∙ turn (suc (j.left - 1)) a b o j k m is paid second ∙ more_ends (j.left - 1) (Bin o a b) m ends)

module _ (inner : Parser Expr) where
  pub unary_none : (i j : Input) (a : Expr) → repeated t.Minus i ≡ Some (0, i) → prim inner i ≡ Some (a, j) → unary inner i ≡ Some (a, j)
  unfolding unary
  unary_none i j a none read = rw none (rw read refl)

  pub unary_minus : (i k j : Input) (a : Expr) → repeated t.Minus i ≡ Some (1, k) → prim inner k ≡ Some (a, j) → unary inner i ≡ Some (Neg a, j)
  unfolding unary
  unary_minus i k j a one read = rw one (rw read refl)

  pub not_none : (i j : Input) (a : Expr) → repeated t.Not i ≡ Some (0, i) → cmp inner i ≡ Some (a, j) → e.not inner i ≡ Some (a, j)
  unfolding e.not
  not_none i j a none read = rw none (rw read refl)

  pub not_not : (i k j : Input) (a : Expr) → repeated t.Not i ≡ Some (1, k) → cmp inner k ≡ Some (a, j) → e.not inner i ≡ Some (Not a, j)
  unfolding e.not
  not_not i k j a one read = rw one (rw read refl)

  pub cmp_ends : (i j : Input) (a : Expr) → sum inner i ≡ Some (a, j) → comparison (tag j) ≡ None → sees t.Is j ≡ false → cmp inner i ≡ Some (a, j)
  unfolding cmp
  cmp_ends i j a read is other = rw read (rw is (rw other (ap (λ k. Some (a, k)) (left_ t.Is j other))))

  pub cmp_binary : (i j k m : Input) (a b : Expr) (o : Op) → sum inner i ≡ Some (a, j) → comparison (tag j) ≡ Some o → spend (next j) ≡ Some (tt, k) → sum inner k ≡ Some (b, m)
      → cmp inner i ≡ Some (Bin o a b, m)
  unfolding cmp
  cmp_binary i j k m a b o first is paid second = rw first (rw is (rw paid (rw second refl)))

  -- an operand, of which neither NOT nor '-' is the first token
  pub record Operand (i j : Input) (a : Expr) : Type 0 where
    pub read : prim inner i ≡ Some (a, j)
    pub no_minus : repeated t.Minus i ≡ Some (0, i)
    pub no_not : repeated t.Not i ≡ Some (0, i)

  pub as_unary : (i j : Input) (a : Expr) → Operand i j a → unary inner i ≡ Some (a, j)
  as_unary i j a k = unary_none i j a k.no_minus k.read

  pub as_product : (i j : Input) (a : Expr) → Operand i j a → operator l.Product (tag j) ≡ None → product inner i ≡ Some (a, j)
  unfolding product
  as_product i j a k free = grouped_ends (operator l.Product) (unary inner) i j a (as_unary i j a k) free

  pub as_sum : (i j : Input) (a : Expr) → product inner i ≡ Some (a, j) → operator l.Sum (tag j) ≡ None → sum inner i ≡ Some (a, j)
  unfolding sum
  as_sum i j a read free = grouped_ends (operator l.Sum) (product inner) i j a read free

  pub as_and : (i j : Input) (a : Expr) → e.not inner i ≡ Some (a, j) → operator l.And (tag j) ≡ None → and inner i ≡ Some (a, j)
  unfolding and
  as_and i j a read free = grouped_ends (operator l.And) (e.not inner) i j a read free

  pub as_or : (i j : Input) (a : Expr) → and inner i ≡ Some (a, j) → operator l.Or (tag j) ≡ None → or inner i ≡ Some (a, j)
  unfolding or
  as_or i j a read free = grouped_ends (operator l.Or) (and inner) i j a read free
