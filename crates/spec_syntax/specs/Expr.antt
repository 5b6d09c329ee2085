-- Expressions: a rule of the grammar for each definition.
use Rattle.std.specs.Prelude.{ℕ, zero, suc, ◌+◌, ◌==◌, if◌then◌else◌, List, [], ◌∷◌, Option, Some, None, option_map, option_and_then}
use Rattle.sql_value.specs.declared.value.Value.{Value}
use Rattle.sql_value.specs.declared.expr.Op.{Op}
use Rattle.sql_value.specs.declared.expr.Op.TheVariants as op
use Rattle.sql_value.specs.declared.expr.Expr.{Expr}
use Rattle.sql_value.specs.declared.expr.Expr.TheVariants.{Lit, Col, Neg, Not, IsNull, Bin}
use Rattle.sql_value.specs.Literal.{literal_of}
use Rattle.spec_syntax.specs.declared.tag.Tag.{Tag}
use Rattle.spec_syntax.specs.declared.tag.Tag.TheVariants as t
use Rattle.spec_syntax.specs.declared.level.Level.{Level}
use Rattle.spec_syntax.specs.declared.level.Level.TheVariants as l
use Rattle.spec_syntax.specs.Input.{Parser, ◌>>=◌, ◌>>◌, ◌<$>◌, pure, refuse, required, peek, take_text, eat, expect, spend, repeated, begin}

abbrev pub operator : Level → Tag → Option Op
operator l.Or t.Or = Some op.Or
operator l.And t.And = Some op.And
operator l.Sum t.Plus = Some op.Add
operator l.Sum t.Minus = Some op.Sub
operator l.Product t.Star = Some op.Mul
operator _ _ = None

abbrev pub comparison : Tag → Option Op
comparison t.Equal = Some op.Eq
comparison t.NotEqual = Some op.Ne
comparison t.Less = Some op.Lt
comparison t.LessEqual = Some op.Le
comparison t.Greater = Some op.Gt
comparison t.GreaterEqual = Some op.Ge
comparison _ = None

-- ---- names and literals

-- behind '['
abbrev pub after_open : List ℕ → Option (List ℕ)
after_open [] = None
after_open (c ∷ cs) = if c == 91 then Some cs else None

-- before the ']' at the end
abbrev pub before_close : List ℕ → Option (List ℕ)
before_close [] = None
before_close (c ∷ []) = if c == 93 then Some [] else None
before_close (c ∷ d ∷ cs) = option_map (λ x. c ∷ x) (before_close (d ∷ cs))

-- what stands between the brackets
unfoldable pub inside : List ℕ → Option (List ℕ)
inside w = option_and_then before_close (after_open w)

abbrev pub name_by : Tag → Parser (List ℕ)
name_by t.Word = take_text
name_by t.Bracketed = take_text >>= (λ w. required (inside w))
name_by _ = refuse

-- a word that is not reserved, or what stands between brackets
unfoldable pub name : Parser (List ℕ)
name = peek >>= name_by

abbrev pub literal_text : Parser Value
literal_text = take_text >>= (λ w. required (literal_of w))

abbrev pub literal_by : Tag → Parser Value
literal_by t.Null = literal_text
literal_by t.Number = literal_text
literal_by t.Text = literal_text
literal_by t.Bytes = literal_text
literal_by _ = refuse

-- number | text | bytes | NULL
unfoldable pub literal : Parser Value
literal = peek >>= literal_by

-- ---- operators

abbrev pub leaf_by : Tag → Parser Expr
leaf_by t.Word = Col <$> name
leaf_by t.Bracketed = Col <$> name
leaf_by _ = Lit <$> literal

-- a literal or a name, each of which counts
unfoldable pub leaf : Parser Expr
leaf = spend >> peek >>= leaf_by

abbrev pub times : ℕ → (Expr → Expr) → Expr → Expr
times zero f e = e
times (suc n) f e = f (times n f e)

module _ (operator : Tag → Option Op) (operand : Parser Expr) where
  abbrev pub more_by : Option Op → (Op → Parser Expr) → Expr → Parser Expr
  more_by None go left = pure left
  more_by (Some o) go left = go o

  -- The number bounds the turns, and each counts an operator.
  unfoldable pub more : ℕ → Expr → Parser Expr
  more zero left = refuse
  more (suc n) left = do
    tag ← peek
    more_by (operator tag) (λ o. take_text >> spend >> operand >>= (λ right. more n (Bin o left right))) left

  -- operand {operator operand}
  abbrev pub grouped : Parser Expr
  grouped = operand >>= (λ left i. more (i.left + 1) left i)

module _ (inner : Parser Expr) where
  -- '(' expr ')' | literal | name
  unfoldable pub prim : Parser Expr
  prim = do
    open_ ← eat t.Open
    if open_ then (do e ← inner; expect t.Close; pure e) else leaf

  -- {'-'} prim
  unfoldable pub unary : Parser Expr
  unary = do
    signs ← repeated t.Minus
    times signs Neg <$> prim

  -- unary {'*' unary}
  unfoldable pub product : Parser Expr
  product = grouped (operator l.Product) unary

  -- prod {('+' | '-') prod}
  unfoldable pub sum : Parser Expr
  sum = grouped (operator l.Sum) product

  abbrev pub cmp_by : Expr → Option Op → Parser Expr
  cmp_by left (Some o) = take_text >> spend >> Bin o left <$> sum
  cmp_by left None = do
    found ← eat t.Is
    if found then (do spend; negated ← eat t.Not; expect t.Null; pure (IsNull left negated)) else pure left

  -- sum [comparison sum | IS [NOT] NULL]
  unfoldable pub cmp : Parser Expr
  cmp = do
    left ← sum
    tag ← peek
    cmp_by left (comparison tag)

  -- {NOT} cmp
  unfoldable pub not : Parser Expr
  not = do
    nots ← repeated t.Not
    times nots Not <$> cmp

  -- not {AND not}
  unfoldable pub and : Parser Expr
  and = grouped (operator l.And) not

  -- and {OR and}
  unfoldable pub or : Parser Expr
  or = grouped (operator l.Or) and

unfoldable pub level : Parser Expr → Level → Parser Expr
level inner l.Or = or inner
level inner l.And = and inner
level inner l.Sum = sum inner
level inner l.Product = product inner

unfoldable pub operand : Parser Expr → Level → Parser Expr
operand inner l.Or = level inner l.And
operand inner l.And = not inner
operand inner l.Sum = level inner l.Product
operand inner l.Product = unary inner

-- an expression in which parentheses nest no deeper than the number
unfoldable pub expr : ℕ → Parser Expr
expr zero = refuse
expr (suc depth) = or (expr depth)

abbrev pub max_nesting : ℕ
max_nesting = 256

-- an expression with at most 256 operators and operands, whose parentheses nest at most 256 deep
unfoldable pub whole : Parser Expr
whole = λ i. or (expr max_nesting) (begin i)
