-- The operators of two operands, by what they do.
use Rattle.std.specs.Prelude.{⊤}
use Rattle.sql_value.specs.declared.expr.Op.{Op}
use Rattle.sql_value.specs.declared.expr.Op.TheVariants.{Add, Sub, Mul, Eq, Ne, Lt, Le, Gt, Ge, And, Or}

-- +, - and *
abbrev pub IsArithmetic : Op → Type 0
IsArithmetic Add = ⊤
IsArithmetic Sub = ⊤
IsArithmetic Mul = ⊤
IsArithmetic _ = ⊥

-- =, <>, <, <=, > and >=
abbrev pub IsComparison : Op → Type 0
IsComparison Eq = ⊤
IsComparison Ne = ⊤
IsComparison Lt = ⊤
IsComparison Le = ⊤
IsComparison Gt = ⊤
IsComparison Ge = ⊤
IsComparison _ = ⊥

-- AND and OR
abbrev pub IsConnective : Op → Type 0
IsConnective And = ⊤
IsConnective Or = ⊤
IsConnective _ = ⊥
