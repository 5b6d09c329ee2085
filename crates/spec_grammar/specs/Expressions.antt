-- Expressions, production by production. Operators of one level group from the left.
use Rattle.std.specs.Prelude.{ℕ, suc, ◌+◌, ◌≤◌, true, false, List, ◌++◌, codes}
use Rattle.sql_value.specs.declared.value.Value.{Value}
use Rattle.sql_value.specs.declared.expr.Op.{Op}
use Rattle.sql_value.specs.declared.expr.Op.TheVariants as op
use Rattle.sql_value.specs.declared.expr.Expr.{Expr}
use Rattle.sql_value.specs.declared.expr.Expr.TheVariants.{Lit, Col, Neg, Not, IsNull, Bin}
use Rattle.sql_value.specs.Tree.{Tree, literal, column, minus, not, is_null, binary, tree}
use Rattle.spec_grammar.specs.Tokens.{Lexemes, Word, Sign, IsName, IsConstant}

-- the productions `expr`, `and`, `not`, `cmp`, `sum`, `prod`, `unary` and `prim`
pub data Level : Type 0 where
  Expr' : Level
  And' : Level
  Not' : Level
  Cmp' : Level
  Sum' : Level
  Prod' : Level
  Unary' : Level
  Prim' : Level

-- '=' | '<>' | '!=' | '<' | '<=' | '>' | '>='
pub data IsComparison : Lexemes → Op → Type 0 where
  equal : {a : Lexemes} → Sign (codes "=") a → IsComparison a op.Eq
  not_equal : {a : Lexemes} → Sign (codes "<>") a → IsComparison a op.Ne
  not_equal_too : {a : Lexemes} → Sign (codes "!=") a → IsComparison a op.Ne
  less : {a : Lexemes} → Sign (codes "<") a → IsComparison a op.Lt
  less_equal : {a : Lexemes} → Sign (codes "<=") a → IsComparison a op.Le
  greater : {a : Lexemes} → Sign (codes ">") a → IsComparison a op.Gt
  greater_equal : {a : Lexemes} → Sign (codes ">=") a → IsComparison a op.Ge

-- The tokens are the expression by the production, with parentheses that nest no deeper than the number.
pub data Derives : ℕ → Level → Lexemes → Expr → Type 0 where
  -- expr := and {OR and}
  expr_and : {d : ℕ} {a : Lexemes} {x : Expr} → Derives d And' a x → Derives d Expr' a x
  expr_or : {d : ℕ} {a b c : Lexemes} {x y : Expr}
      → Derives d Expr' a x → Word (codes "OR") b → Derives d And' c y
      → Derives d Expr' (a ++ (b ++ c)) (Bin op.Or x y)
  -- and := not {AND not}
  and_not : {d : ℕ} {a : Lexemes} {x : Expr} → Derives d Not' a x → Derives d And' a x
  and_and : {d : ℕ} {a b c : Lexemes} {x y : Expr}
      → Derives d And' a x → Word (codes "AND") b → Derives d Not' c y
      → Derives d And' (a ++ (b ++ c)) (Bin op.And x y)
  -- not := NOT not | cmp
  not_not : {d : ℕ} {a b : Lexemes} {x : Expr}
      → Word (codes "NOT") a → Derives d Not' b x
      → Derives d Not' (a ++ b) (Not x)
  not_cmp : {d : ℕ} {a : Lexemes} {x : Expr} → Derives d Cmp' a x → Derives d Not' a x
  -- cmp := sum [('=' | '<>' | '!=' | '<' | '<=' | '>' | '>=') sum | IS [NOT] NULL]
  cmp_sum : {d : ℕ} {a : Lexemes} {x : Expr} → Derives d Sum' a x → Derives d Cmp' a x
  cmp_sums : {d : ℕ} {a b c : Lexemes} {x y : Expr} {o : Op}
      → Derives d Sum' a x → IsComparison b o → Derives d Sum' c y
      → Derives d Cmp' (a ++ (b ++ c)) (Bin o x y)
  cmp_null : {d : ℕ} {a b c : Lexemes} {x : Expr}
      → Derives d Sum' a x → Word (codes "IS") b → Word (codes "NULL") c
      → Derives d Cmp' (a ++ (b ++ c)) (IsNull x false)
  cmp_not_null : {d : ℕ} {a b c e : Lexemes} {x : Expr}
      → Derives d Sum' a x → Word (codes "IS") b → Word (codes "NOT") c → Word (codes "NULL") e
      → Derives d Cmp' (a ++ (b ++ (c ++ e))) (IsNull x true)
  -- sum := prod {('+' | '-') prod}
  sum_prod : {d : ℕ} {a : Lexemes} {x : Expr} → Derives d Prod' a x → Derives d Sum' a x
  sum_plus : {d : ℕ} {a b c : Lexemes} {x y : Expr}
      → Derives d Sum' a x → Sign (codes "+") b → Derives d Prod' c y
      → Derives d Sum' (a ++ (b ++ c)) (Bin op.Add x y)
  sum_minus : {d : ℕ} {a b c : Lexemes} {x y : Expr}
      → Derives d Sum' a x → Sign (codes "-") b → Derives d Prod' c y
      → Derives d Sum' (a ++ (b ++ c)) (Bin op.Sub x y)
  -- prod := unary {'*' unary}
  prod_unary : {d : ℕ} {a : Lexemes} {x : Expr} → Derives d Unary' a x → Derives d Prod' a x
  prod_times : {d : ℕ} {a b c : Lexemes} {x y : Expr}
      → Derives d Prod' a x → Sign (codes "*") b → Derives d Unary' c y
      → Derives d Prod' (a ++ (b ++ c)) (Bin op.Mul x y)
  -- unary := '-' unary | prim
  unary_minus : {d : ℕ} {a b : Lexemes} {x : Expr}
      → Sign (codes "-") a → Derives d Unary' b x
      → Derives d Unary' (a ++ b) (Neg x)
  unary_prim : {d : ℕ} {a : Lexemes} {x : Expr} → Derives d Prim' a x → Derives d Unary' a x
  -- prim := literal | name | '(' expr ')'
  prim_literal : {d : ℕ} {a : Lexemes} {v : Value} → IsConstant a v → Derives d Prim' a (Lit v)
  prim_name : {d : ℕ} {a : Lexemes} {n : List ℕ} → IsName a n → Derives d Prim' a (Col n)
  prim_expr : {d : ℕ} {a b c : Lexemes} {x : Expr}
      → Sign (codes "(") a → Derives d Expr' b x → Sign (codes ")") c
      → Derives (suc d) Prim' (a ++ (b ++ c)) x

-- how many operators and operands there are: each literal, each column and each operator
abbrev pub parts : Tree → ℕ
parts (literal v) = 1
parts (column n) = 1
parts (minus a) = parts a + 1
parts (not a) = parts a + 1
parts (is_null a negated) = parts a + 1
parts (binary o a b) = parts a + parts b + 1

-- an expression has at most 256 operators and operands, and at most 256 parentheses are open at one place
pub record IsExpr (a : Lexemes) (x : Expr) : Type 0 where
  pub derived : Derives 256 Expr' a x
  pub few : parts (tree x) ≤ 256
