-- The meaning of an expression in a row. It is total: each use that its classes forbid is TypeMismatch.
use Rattle.std.specs.Prelude.{ℕ, ℤ, Bool, true, false, ◌==◌, if◌then◌else◌, List, Option, Some, None, Ok, Err}
use Rattle.std.specs.Prelude as bool
use Rattle.std.specs.declared.cmp.Ordering.{Ordering}
use Rattle.std.specs.Ordering.{is_eq, is_lt, is_gt, is_le, is_ge}
use Rattle.sql_value.specs.declared.value.Value.{Value}
use Rattle.sql_value.specs.declared.value.Value.TheVariants as val
use Rattle.sql_value.specs.declared.column.ColumnDef.{ColumnDef}
use Rattle.sql_value.specs.declared.refusal.Refusal.TheVariants.{TypeMismatch}
use Rattle.sql_value.specs.declared.expr.Op.{Op}
use Rattle.sql_value.specs.declared.expr.Op.TheVariants as op
use Rattle.sql_value.specs.declared.expr.Expr.{Expr}
use Rattle.sql_types.specs.declared.outcome.Outcome.{Outcome}
use Rattle.sql_types.specs.declared.outcome.Outcome.TheVariants as out
use Rattle.sql_value.specs.Order.{value_cmp, kind}
use Rattle.sql_value.specs.Tree.{Tree, literal, column, minus, not, is_null, binary, tree}
use Rattle.spec_model.specs.Refusals.{Checked, and_then, or_refused}
use Rattle.spec_model.specs.Columns.{value_of}
use Rattle.spec_model.specs.Days.{written_day}
use Rattle.spec_model.specs.Numbers.{sum_of, difference_of, product_of, negative_of}
use Rattle.spec_model.specs.Truths.{both, either, opposite}

abbrev pub Answer : Type 0
Answer = Checked Outcome

abbrev pub a_value : Value → Answer
a_value x = Ok (out.Value x)

abbrev pub a_truth : Option Bool → Answer
a_truth t = Ok (out.Truth t)

-- ---- arithmetic: with NULL it is NULL

abbrev pub number_op : Op → ℤ → ℕ → ℤ → ℕ → Checked Value
number_op op.Add v s w z = sum_of v s w z
number_op op.Sub v s w z = difference_of v s w z
number_op op.Mul v s w z = product_of v s w z
number_op _ v s w z = Err TypeMismatch

abbrev pub arithmetic : Op → Value → Value → Answer
arithmetic o (val.Num s v) (val.Num z w) = and_then (number_op o v s w z) a_value
arithmetic o (val.Num s v) val.Null = a_value val.Null
arithmetic o val.Null (val.Num z w) = a_value val.Null
arithmetic o val.Null val.Null = a_value val.Null
arithmetic o _ _ = Err TypeMismatch

abbrev pub negated : Outcome → Answer
negated (out.Value (val.Num s v)) = and_then (negative_of v s) a_value
negated (out.Value val.Null) = a_value val.Null
negated _ = Err TypeMismatch

-- ---- comparison: with NULL it is unknown

-- the operator takes this order of its operands
abbrev pub takes : Op → Ordering → Bool
takes op.Eq c = is_eq c
takes op.Ne c = bool.not (is_eq c)
takes op.Lt c = is_lt c
takes op.Le c = is_le c
takes op.Gt c = is_gt c
takes op.Ge c = is_ge c
takes _ c = false

-- values of one kind compare by the order of values
abbrev pub compared : Op → Value → Value → Answer
compared o val.Null b = a_truth None
compared o a val.Null = a_truth None
compared o a b = if kind a == kind b then a_truth (Some (takes o (value_cmp a b))) else Err TypeMismatch

-- a truth compares with NULL alone
abbrev pub with_null : Op → Answer
with_null op.Eq = a_truth None
with_null op.Ne = a_truth None
with_null op.Lt = a_truth None
with_null op.Le = a_truth None
with_null op.Gt = a_truth None
with_null op.Ge = a_truth None
with_null _ = Err TypeMismatch

-- ---- truths

abbrev pub inverted : Outcome → Answer
inverted (out.Truth t) = a_truth (opposite t)
inverted _ = Err TypeMismatch

abbrev pub is_null_value : Value → Bool
is_null_value val.Null = true
is_null_value _ = false

-- IS NULL, or where it is negated IS NOT NULL
abbrev pub null_test : Bool → Outcome → Answer
null_test negated (out.Value x) =
    a_truth (Some (if negated then bool.not (is_null_value x) else is_null_value x))
null_test negated _ = Err TypeMismatch

-- ---- operators of two operands

abbrev pub on_values : Op → Value → Value → Answer
on_values op.Add x y = arithmetic op.Add x y
on_values op.Sub x y = arithmetic op.Sub x y
on_values op.Mul x y = arithmetic op.Mul x y
on_values op.And x y = Err TypeMismatch
on_values op.Or x y = Err TypeMismatch
on_values o x y = compared o x y

abbrev pub on_truths : Op → Option Bool → Option Bool → Answer
on_truths op.And s t = a_truth (both s t)
on_truths op.Or s t = a_truth (either s t)
on_truths _ s t = Err TypeMismatch

abbrev pub applied : Op → Outcome → Outcome → Answer
applied o (out.Value x) (out.Value y) = on_values o x y
applied o (out.Truth s) (out.Truth t) = on_truths o s t
applied o (out.Value val.Null) (out.Truth t) = with_null o
applied o (out.Truth s) (out.Value val.Null) = with_null o
applied o _ _ = Err TypeMismatch

-- ---- expressions

-- a text literal that is a date counts as its day beside a day
abbrev pub beside_day : Option ℕ → Outcome → Outcome → Outcome
beside_day (Some d) x (out.Value (val.Date e)) = out.Value (val.Date d)
beside_day _ x y = x

-- the meaning of an expression, from the leaves up: both sides of an operator are always evaluated
abbrev pub meaning : List ColumnDef → List Value → Tree → Answer
meaning columns row (literal v) = a_value v
meaning columns row (column name) = and_then (or_refused TypeMismatch (value_of columns row name)) a_value
meaning columns row (minus a) = and_then (meaning columns row a) negated
meaning columns row (not a) = and_then (meaning columns row a) inverted
meaning columns row (is_null a negated) = and_then (meaning columns row a) (null_test negated)
meaning columns row (binary o a b) =
    and_then (meaning columns row a) (λ x. and_then (meaning columns row b) (λ y.
    applied o (beside_day (written_day a) x y) (beside_day (written_day b) y x)))

-- the meaning of an expression over columns, in a row of them
unfoldable pub meaning_of : List ColumnDef → List Value → Expr → Answer
meaning_of columns row e = meaning columns row (tree e)
