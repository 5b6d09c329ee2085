-- The levels whose operators group from the left.
use Rattle.std.proofs.Common.{◌≡◌, ℕ, suc, ◌+◌, ◌-◌, ◌<◌, refl, ap, ◌∙◌, arith, Some, None}
use Rattle.spec_syntax.specs.declared.level.Level.{Level}
use Rattle.spec_syntax.specs.declared.level.Level.TheVariants as l
use Rattle.sql_value.specs.declared.expr.Expr.{Expr}
use Rattle.spec_syntax.specs.Input.{Input, Parser, and_then}
use Rattle.spec_syntax.specs.Expr.{level, operand, operator, more, grouped, product, sum, and, or}

abbrev pub rank : Level → ℕ
rank l.Product = 2
rank l.Sum = 4
rank l.And = 8
rank l.Or = 10

pub level-grouped : (inner : Parser Expr) (k : Level) → level inner k ≡ grouped (operator k) (operand inner k)
unfolding level operand product sum and or
level-grouped inner l.Or = refl
level-grouped inner l.And = refl
level-grouped inner l.Sum = refl
level-grouped inner l.Product = refl

pub one_more : {X : Type 0} {x : X} (f : ℕ → X) (n at : ℕ) → at < n → x ≡ f (n - at) → x ≡ f (suc (n - (at + 1)))
one_more f n at below e = let turn : n - at ≡ suc (n - (at + 1)) = omega arith in e ∙ ap f turn

pub starts : (inner : Parser Expr) (k : Level) (i j : Input) (e : Expr) → operand inner k i ≡ Some (e, j)
    → level inner k i ≡ more (operator k) (operand inner k) (j.left + 1) e j
starts inner k i j e read =
    ap (λ (p : Parser Expr). p i) (level-grouped inner k) ∙ ap (λ o. and_then o (λ left m. more (operator k) (operand inner k) (m.left + 1) left m)) read

pub refused_first : (inner : Parser Expr) (k : Level) (i : Input) → operand inner k i ≡ None → level inner k i ≡ None
refused_first inner k i read =
    ap (λ (p : Parser Expr). p i) (level-grouped inner k) ∙ ap (λ o. and_then o (λ left m. more (operator k) (operand inner k) (m.left + 1) left m)) read
