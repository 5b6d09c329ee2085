-- WHERE: the rows that a condition takes, and the key that it fixes.
use Rattle.std.specs.Prelude.{ℕ, Bool, true, false, if◌then◌else◌, List, [], ◌∷◌, ◌++◌, map, Option, Some, None, Ok, Err}
use Rattle.std.specs.Str.{bytes_eq}
use Rattle.std.specs.Ordering.{is_eq}
use Rattle.sql_value.specs.declared.value.Value.{Value}
use Rattle.sql_value.specs.declared.value.Value.TheVariants as val
use Rattle.sql_value.specs.declared.column.ColumnDef.{ColumnDef}
use Rattle.sql_value.specs.declared.refusal.Refusal.TheVariants.{TypeMismatch}
use Rattle.sql_value.specs.declared.expr.Op.TheVariants as op
use Rattle.sql_value.specs.declared.expr.Expr.{Expr}
use Rattle.sql_value.specs.Order.{value_cmp}
use Rattle.sql_value.specs.Conversion.{Converted, conversion_of}
use Rattle.sql_value.specs.Tree.{Tree, literal, column, binary, tree}
use Rattle.sql_types.specs.declared.outcome.Outcome.{Outcome}
use Rattle.sql_types.specs.declared.outcome.Outcome.TheVariants as out
use Rattle.spec_model.specs.Refusals.{Checked, and_then}
use Rattle.spec_model.specs.Evaluation.{meaning_of}
use Rattle.spec_model.specs.Lists.{all_some, or_else}
use Rattle.spec_model.specs.Rows.{Row}
use Rattle.spec_model.specs.Keys.{Key, key_columns}

-- ---- the rows that are taken: those for which the condition is true

abbrev pub is_true : Outcome → Checked Bool
is_true (out.Truth (Some b)) = Ok b
is_true (out.Truth None) = Ok false
is_true (out.Value v) = Err TypeMismatch

-- without a condition each row is taken
unfoldable pub holds : List ColumnDef → Option Expr → Row → Checked Bool
holds columns None row = Ok true
holds columns (Some e) row = and_then (meaning_of columns row e) is_true

-- ---- the key that a condition fixes

-- a column and a literal that it is to be equal to
abbrev pub Equality : Type 0
Equality = List ℕ × Value

-- `column = literal` or `literal = column`
abbrev pub equality : Tree → Tree → List Equality
equality (column name) (literal v) = (name, v) ∷ []
equality (literal v) (column name) = (name, v) ∷ []
equality _ _ = []

-- such parts among those that AND joins at the top, in the order of writing
abbrev pub equalities : Tree → List Equality
equalities (binary op.And a b) = equalities a ++ equalities b
equalities (binary op.Eq a b) = equality a b
equalities _ = []

-- conversion didn't change the value; a text literal that is a date is its day
abbrev pub is_unchanged : Value → Value → Bool
is_unchanged (val.Text x) (val.Date d) = true
is_unchanged v w = is_eq (value_cmp v w)

abbrev pub unchanged_value : Value → Converted → Option Value
unchanged_value v (Ok w) = if is_unchanged v w then Some w else None
unchanged_value v (Err e) = None

-- what the column is fixed to: a literal that isn't NULL and converts to the column's type without changing
-- its value
abbrev pub fixed_to : ColumnDef → Value → Option Value
fixed_to c val.Null = None
fixed_to c v = unchanged_value v (conversion_of v c.ty)

-- by the first part that fixes it
abbrev pub fixed_value : List Equality → ColumnDef → Option Value
fixed_value [] c = None
fixed_value (p ∷ ps) c =
    if bytes_eq c.name p.0 then or_else (fixed_to c p.1) (fixed_value ps c) else fixed_value ps c

-- the key that a condition fixes: it fixes each column of the key
unfoldable pub key_fixed : List ColumnDef → Option Expr → Option Key
key_fixed columns None = None
key_fixed columns (Some e) = all_some (map (fixed_value (equalities (tree e))) (key_columns columns))
