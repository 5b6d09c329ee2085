-- Comparisons with NULL.
use Rattle.std.proofs.Common.{◌≡◌, ℕ, List, refl, arith, rules}
use Rattle.std.proofs.lemmas.Grind.{common_steps}
use Rattle.std.specs.Prelude.{Option, None, Ok}
use Rattle.sql_value.specs.declared.value.Value.{Value}
use Rattle.sql_value.specs.declared.value.Value.TheVariants as val
use Rattle.sql_value.specs.declared.column.ColumnDef.{ColumnDef}
use Rattle.sql_value.specs.declared.expr.Op.{Op}
use Rattle.sql_types.specs.declared.outcome.Outcome.{Outcome}
use Rattle.sql_types.specs.declared.outcome.Outcome.TheVariants as out
use Rattle.sql_value.specs.Tree.{Tree, literal, column, minus, not, is_null, binary}
use Rattle.spec_model.specs.Days.{written_day}
use Rattle.spec_model.specs.Evaluation as me
use Rattle.spec_model.specs.Operators.{IsComparison}

-- what is NULL writes no day
no_day : (columns : List ColumnDef) (row : List Value) (t : Tree) → me.meaning columns row t ≡ Ok (out.Value val.Null) → written_day t ≡ None
no_day columns row (literal val.Null) h = refl
no_day columns row (literal (val.Num s v)) h = refl
no_day columns row (literal (val.Text y)) h = absurd (search rules)
no_day columns row (literal (val.Bytes y)) h = refl
no_day columns row (literal (val.Date e)) h = refl
no_day columns row (column name) h = refl
no_day columns row (minus a) h = refl
no_day columns row (not a) h = refl
no_day columns row (is_null a n) h = refl
no_day columns row (binary o a b) h = refl

null_left : (o : Op) (u : Option ℕ) (y : Outcome) → IsComparison o → me.applied o (out.Value val.Null) (me.beside_day u y (out.Value val.Null)) ≡ Ok (out.Truth None)
null_left o u y is = grind (arith, common_steps)

null_right : (o : Op) (u : Option ℕ) (x : Outcome) → IsComparison o → me.applied o (me.beside_day u x (out.Value val.Null)) (out.Value val.Null) ≡ Ok (out.Truth None)
null_right o u x is = grind (arith, common_steps)

pub left : (columns : List ColumnDef) (row : List Value) (o : Op) (a b : Tree) (y : Outcome) → IsComparison o
    → me.meaning columns row a ≡ Ok (out.Value val.Null) → me.meaning columns row b ≡ Ok y
    → me.meaning columns row (binary o a b) ≡ Ok (out.Truth None)
left columns row o a b y is h k = rw (h, k, no_day columns row a h) (null_left o (written_day b) y is)

pub right : (columns : List ColumnDef) (row : List Value) (o : Op) (a b : Tree) (x : Outcome) → IsComparison o
    → me.meaning columns row a ≡ Ok x → me.meaning columns row b ≡ Ok (out.Value val.Null)
    → me.meaning columns row (binary o a b) ≡ Ok (out.Truth None)
right columns row o a b x is h k = rw (h, k, no_day columns row b k) (null_right o (written_day a) x is)
