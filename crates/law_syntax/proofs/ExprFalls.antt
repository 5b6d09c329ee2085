-- What is left of an expression's operators and operands never rises.
use Rattle.std.proofs.Common.{◌==◌, ℕ, zero, suc, ◌+◌, ◌-◌, ◌≤◌, Bool, true, false, cond, if◌then◌else◌, List, [], ◌∷◌, Option, Some, None, arith}
use Rattle.std.specs.Prelude.{⊤}
use Rattle.sql_value.specs.declared.expr.Op.{Op}
use Rattle.sql_value.specs.declared.expr.Expr.{Expr}
use Rattle.sql_value.specs.declared.expr.Expr.TheVariants.{Lit, Col, Neg, Not, IsNull, Bin}
use Rattle.spec_syntax.specs.declared.tag.Tag.{Tag}
use Rattle.spec_syntax.specs.declared.tag.Tag.TheVariants as t
use Rattle.spec_syntax.specs.declared.level.Level.{Level}
use Rattle.spec_syntax.specs.declared.level.Level.TheVariants as l
use Rattle.spec_syntax.specs.Tags.{same_tag}
use Rattle.spec_syntax.specs.Input.{Input, Sym, Outcome, Parser, and_then, ◌>>=◌, ◌>>◌, pure, peek, take_text, next, sees, eat, expect, spend, repeated, repeated_at, one_more}
use Rattle.spec_syntax.specs.Expr.{operator, comparison, name, literal, leaf, leaf_by, times, more, more_by, grouped, prim, unary, product, sum, cmp, cmp_by, not, and, or, level, operand, expr}
use Rattle.law_printing.proofs.Repeats.{at_}
use Rattle.law_printing.proofs.KeptExprs.{LeftIs, name_left, literal_left, after_left}

abbrev pub FallsTo : {A : Type 0} → ℕ → Outcome A → Type 0
FallsTo n None = ⊤
FallsTo n (Some q) = q.1.left ≤ n

abbrev pub Falls : {A : Type 0} → Parser A → Type 0
Falls p = (i : Input) → FallsTo i.left (p i)

then_falls : {A B : Type 0} (n : ℕ) (o : Outcome A) (f : A → Parser B) → FallsTo n o → ((a : A) (j : Input) → j.left ≤ n → FallsTo n (f a j)) → FallsTo n (and_then o f)
then_falls n None f k h = tt
then_falls n (Some q) f k h = h q.0 q.1 k

lower : {A : Type 0} (m n : ℕ) (o : Outcome A) → m ≤ n → FallsTo m o → FallsTo n o
lower m n None le k = tt
lower m n (Some q) le k = omega (arith, le, k)

exact : {A : Type 0} (n : ℕ) (o : Outcome A) → LeftIs n o → FallsTo n o
exact n None k = tt
exact n (Some q) k = omega (arith, k)

by : {A : Type 0} (p : Parser A) → Falls p → (n : ℕ) (j : Input) → j.left ≤ n → FallsTo n (p j)
by p falls n j le = lower j.left n (p j) le (falls j)

sequence : {A B : Type 0} (p : Parser A) (f : A → Parser B) → Falls p → ((a : A) → Falls (f a)) → Falls (p >>= f)
sequence p f first second i = then_falls i.left (p i) f (first i) (λ a j le. by (f a) (second a) i.left j le)

spend_by : (c : Bool) (i : Input) → FallsTo {A = Unit {0}} i.left (cond c None (Some (tt, record { rest = i.rest; left = i.left - 1 })))
spend_by true i = tt
spend_by false i = omega arith

spend_falls : Falls spend
unfolding spend
spend_falls i = spend_by (i.left == 0) i

peek_falls : Falls peek
peek_falls i = omega arith

take_falls : Falls take_text
unfolding next
take_falls i = omega arith

eat_falls : (g : Tag) → Falls (eat g)
eat_falls g i = omega (arith, after_left g i)

expect_by : (c : Bool) (i : Input) → FallsTo {A = Unit {0}} i.left (cond c (Some (tt, next i)) None)
unfolding next
expect_by true i = omega arith
expect_by false i = tt

expect_falls : (g : Tag) → Falls (expect g)
unfolding expect
expect_falls g i = expect_by (sees g i) i

pure_falls : {A : Type 0} (a : A) → Falls (pure a)
pure_falls a i = omega arith

if_falls : {A : Type 0} (p q : Parser A) → Falls p → Falls q → (c : Bool) → Falls (if c then p else q)
if_falls p q first second true i = first i
if_falls p q first second false i = second i

leaf_by_falls : (g : Tag) → Falls (leaf_by g)
leaf_by_falls t.Word i = then_falls i.left (name i) (λ x. pure (Col x)) (exact i.left (name i) (name_left i)) (λ a j le. le)
leaf_by_falls t.Bracketed i = then_falls i.left (name i) (λ x. pure (Col x)) (exact i.left (name i) (name_left i)) (λ a j le. le)
leaf_by_falls _ i = then_falls i.left (literal i) (λ x. pure (Lit x)) (exact i.left (literal i) (literal_left i)) (λ a j le. le)

leaf_falls : Falls leaf
unfolding leaf
leaf_falls = sequence (spend >> peek) leaf_by (sequence spend (λ _. peek) spend_falls (λ _. peek_falls)) leaf_by_falls

one_falls : (n : ℕ) (o : Outcome ℕ) → FallsTo n o → FallsTo n (one_more o)
one_falls n None k = tt
one_falls n (Some q) k = k

cond_falls : {A : Type 0} (n : ℕ) (c : Bool) (a b : Outcome A) → FallsTo n a → FallsTo n b → FallsTo n (cond c a b)
cond_falls n true a b k h = k
cond_falls n false a b k h = h

repeated_falls_at : (g : Tag) (ts : List Sym) (n : ℕ) → FallsTo n (repeated_at g ts n)
repeated_falls_at g [] n = omega arith
repeated_falls_at g (s ∷ ts) n =
    cond_falls n (same_tag s.0 g) (cond (n == 0) None (one_more (repeated_at g ts (n - 1)))) (Some (0, at_ (s ∷ ts) n))
    (cond_falls n (n == 0) None (one_more (repeated_at g ts (n - 1))) tt (lower (n - 1) n (one_more (repeated_at g ts (n - 1))) (omega arith) (one_falls (n - 1) (repeated_at g ts (n - 1)) (repeated_falls_at g ts (n - 1)))))
    (omega arith)

repeated_falls : (g : Tag) → Falls (repeated g)
unfolding repeated
repeated_falls g i = repeated_falls_at g i.rest i.left

module _ (ops : Tag → Option Op) (operand_ : Parser Expr) (falls : Falls operand_) where
  more_by_falls : (q : Option Op) (go : Op → Parser Expr) (x : Expr) → ((o : Op) → Falls (go o)) → Falls (more_by ops operand_ q go x)
  more_by_falls None go x k i = omega arith
  more_by_falls (Some o) go x k i = k o i

  more_falls : (n : ℕ) (x : Expr) → Falls (more ops operand_ n x)
  unfolding more
  more_falls zero x i = tt
  more_falls (suc n) x i =
      (sequence peek (λ g. more_by ops operand_ (ops g) (λ o. take_text >> spend >> operand_ >>= (λ y. more ops operand_ n (Bin o x y))) x) peek_falls (λ g. more_by_falls (ops g) (λ o. take_text >> spend >> operand_ >>= (λ y. more ops operand_ n (Bin o x y))) x
      (λ o. sequence (take_text >> spend >> operand_) (λ y. more ops operand_ n (Bin o x y))
      (sequence (take_text >> spend) (λ _. operand_) (sequence take_text (λ _. spend) take_falls (λ _. spend_falls)) (λ _. falls)) (λ y. more_falls n (Bin o x y))))) i

  grouped_falls : Falls (grouped ops operand_)
  grouped_falls = sequence operand_ (λ x i. more ops operand_ (i.left + 1) x i) falls (λ x i. more_falls (i.left + 1) x i)

module _ (inner : Parser Expr) (falls : Falls inner) where
  prim_falls : Falls (prim inner)
  unfolding prim
  prim_falls = sequence (eat t.Open) _ (eat_falls t.Open) (if_falls (do e ← inner; expect t.Close; pure e) leaf (sequence inner (λ e. expect t.Close >> pure e) falls (λ e. sequence (expect t.Close) (λ _. pure e) (expect_falls t.Close) (λ _. pure_falls e))) leaf_falls)

  unary_falls : Falls (unary inner)
  unfolding unary
  unary_falls = sequence (repeated t.Minus) _ (repeated_falls t.Minus) (λ m. sequence (prim inner) (λ x. pure (times m Neg x)) prim_falls (λ x. pure_falls (times m Neg x)))

  product_falls : Falls (product inner)
  unfolding product
  product_falls = grouped_falls (operator l.Product) (unary inner) unary_falls

  sum_falls : Falls (sum inner)
  unfolding sum
  sum_falls = grouped_falls (operator l.Sum) (product inner) product_falls

  cmp_by_falls : (x : Expr) (q : Option Op) → Falls (cmp_by inner x q)
  cmp_by_falls x (Some o) =
      sequence (take_text >> spend) _ (sequence take_text (λ _. spend) take_falls (λ _. spend_falls)) (λ _. sequence (sum inner) (λ y. pure (Bin o x y)) sum_falls (λ y. pure_falls (Bin o x y)))
  cmp_by_falls x None =
      sequence (eat t.Is) _ (eat_falls t.Is) (if_falls (do spend; b ← eat t.Not; expect t.Null; pure (IsNull x b)) (pure x)
      (sequence spend (λ _. eat t.Not >>= (λ b. expect t.Null >> pure (IsNull x b))) spend_falls (λ _. sequence (eat t.Not) (λ b. expect t.Null >> pure (IsNull x b)) (eat_falls t.Not)
      (λ b. sequence (expect t.Null) (λ _. pure (IsNull x b)) (expect_falls t.Null) (λ _. pure_falls (IsNull x b))))) (pure_falls x))

  cmp_falls : Falls (cmp inner)
  unfolding cmp
  cmp_falls = sequence (sum inner) _ sum_falls (λ x. sequence peek _ peek_falls (λ g. cmp_by_falls x (comparison g)))

  not_falls : Falls (not inner)
  unfolding not
  not_falls = sequence (repeated t.Not) _ (repeated_falls t.Not) (λ m. sequence (cmp inner) (λ x. pure (times m Not x)) cmp_falls (λ x. pure_falls (times m Not x)))

  and_falls : Falls (and inner)
  unfolding and
  and_falls = grouped_falls (operator l.And) (not inner) not_falls

  pub or_falls : Falls (or inner)
  unfolding or
  or_falls = grouped_falls (operator l.Or) (and inner) and_falls

  pub operand_falls : (k : Level) → Falls (operand inner k)
  unfolding operand level
  operand_falls l.Or = and_falls
  operand_falls l.And = not_falls
  operand_falls l.Sum = product_falls
  operand_falls l.Product = unary_falls

pub expr_falls : (d : ℕ) → Falls (expr d)
unfolding expr
expr_falls zero i = tt
expr_falls (suc d) i = or_falls (expr d) (expr_falls d) i
