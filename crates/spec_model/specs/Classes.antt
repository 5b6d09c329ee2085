-- Classes: what kind of value an expression gives, as far as its columns and literals tell.
use Rattle.std.specs.Prelude.{ℕ, ◌+◌, max, ◌==◌, nat_le, ◌&&◌, Bool, true, if◌then◌else◌, List, Option, Some, Ok, Err, is_some}
use Rattle.sql_value.specs.declared.value.Value.{Value}
use Rattle.sql_value.specs.declared.value.Value.TheVariants as val
use Rattle.sql_value.specs.declared.sql_type.SqlType.{SqlType}
use Rattle.sql_value.specs.declared.sql_type.SqlType.TheVariants as t
use Rattle.sql_value.specs.declared.column.ColumnDef.{ColumnDef}
use Rattle.sql_value.specs.declared.refusal.Refusal.TheVariants.{NoSuchColumn, TypeMismatch}
use Rattle.sql_value.specs.declared.expr.Class.{Class}
use Rattle.sql_value.specs.declared.expr.Class.TheVariants.{Whole, Dec, Text, Bytes, Date, Null, Truth}
use Rattle.sql_value.specs.declared.expr.Op.{Op}
use Rattle.sql_value.specs.declared.expr.Op.TheVariants as op
use Rattle.sql_value.specs.declared.expr.Expr.{Expr}
use Rattle.sql_value.specs.Stored.{is_in_range}
use Rattle.sql_value.specs.Tree.{Tree, literal, column, minus, not, is_null, binary, tree}
use Rattle.spec_model.specs.Refusals.{Checked, and_then, or_refused}
use Rattle.spec_model.specs.Columns.{place_of, column_of}
use Rattle.spec_model.specs.Days.{written_day}

-- ---- columns and literals

abbrev pub class_of_kind : SqlType → Class
class_of_kind t.Bit = Whole
class_of_kind t.Int = Whole
class_of_kind t.BigInt = Whole
class_of_kind (t.Decimal p s) = Dec s
class_of_kind (t.NVarChar n) = Text
class_of_kind (t.VarBinary n) = Bytes
class_of_kind t.Date = Date

-- the class of a column; a type outside its ranges has none
abbrev pub class_of_type : SqlType → Checked Class
class_of_type ty = if is_in_range ty then Ok (class_of_kind ty) else Err TypeMismatch

-- a literal without a point is whole
abbrev pub class_of_literal : Value → Class
class_of_literal val.Null = Null
class_of_literal (val.Num s n) = if s == 0 then Whole else Dec s
class_of_literal (val.Text x) = Text
class_of_literal (val.Bytes x) = Bytes
class_of_literal (val.Date d) = Date

-- ---- what classes agree, and what they give: all that isn't named is TypeMismatch

-- a NULL beside a number has the number's class
abbrev pub beside_number : Class → Class → Class
beside_number Null Whole = Whole
beside_number Null (Dec z) = Dec z
beside_number a b = a

-- + and -: the greater scale
abbrev pub sum_table : Class → Class → Checked Class
sum_table Whole Whole = Ok Whole
sum_table Whole (Dec z) = Ok (Dec z)
sum_table (Dec s) Whole = Ok (Dec s)
sum_table (Dec s) (Dec z) = Ok (Dec (max s z))
sum_table Null Null = Ok Null
sum_table _ _ = Err TypeMismatch

abbrev pub sum_class : Class → Class → Checked Class
sum_class a b = sum_table (beside_number a b) (beside_number b a)

abbrev pub dec_up_to_38 : ℕ → Checked Class
dec_up_to_38 s = if nat_le s 38 then Ok (Dec s) else Err TypeMismatch

-- *: the sum of the scales, which is at most 38
abbrev pub product_table : Class → Class → Checked Class
product_table Whole Whole = Ok Whole
product_table Whole (Dec z) = dec_up_to_38 z
product_table (Dec s) Whole = dec_up_to_38 s
product_table (Dec s) (Dec z) = dec_up_to_38 (s + z)
product_table Null Null = Ok Null
product_table _ _ = Err TypeMismatch

abbrev pub product_class : Class → Class → Checked Class
product_class a b = product_table (beside_number a b) (beside_number b a)

-- unary -
abbrev pub negation_class : Class → Checked Class
negation_class Whole = Ok Whole
negation_class (Dec s) = Ok (Dec s)
negation_class Null = Ok Null
negation_class _ = Err TypeMismatch

-- a comparison: numbers, texts, bytes or days with each other, and NULL with each
abbrev pub comparison_class : Class → Class → Checked Class
comparison_class Null b = Ok Truth
comparison_class a Null = Ok Truth
comparison_class Whole Whole = Ok Truth
comparison_class Whole (Dec z) = Ok Truth
comparison_class (Dec s) Whole = Ok Truth
comparison_class (Dec s) (Dec z) = Ok Truth
comparison_class Text Text = Ok Truth
comparison_class Bytes Bytes = Ok Truth
comparison_class Date Date = Ok Truth
comparison_class _ _ = Err TypeMismatch

-- IS NULL and IS NOT NULL: each but truths
abbrev pub null_test_class : Class → Checked Class
null_test_class Truth = Err TypeMismatch
null_test_class _ = Ok Truth

-- NOT
abbrev pub opposite_class : Class → Checked Class
opposite_class Truth = Ok Truth
opposite_class _ = Err TypeMismatch

-- AND and OR
abbrev pub connective_class : Class → Class → Checked Class
connective_class Truth Truth = Ok Truth
connective_class _ _ = Err TypeMismatch

abbrev pub binary_class : Op → Class → Class → Checked Class
binary_class op.Add a b = sum_class a b
binary_class op.Sub a b = sum_class a b
binary_class op.Mul a b = product_class a b
binary_class op.And a b = connective_class a b
binary_class op.Or a b = connective_class a b
binary_class _ a b = comparison_class a b

-- ---- expressions

-- a text literal that is a date has class Date beside a Date
abbrev pub class_beside_day : Option ℕ → Class → Class → Class
class_beside_day (Some d) a Date = Date
class_beside_day _ a b = a

-- the class of an expression, from the leaves up
abbrev pub class : List ColumnDef → Tree → Checked Class
class columns (literal v) = Ok (class_of_literal v)
class columns (column name) = and_then (or_refused TypeMismatch (column_of columns name)) (λ c. class_of_type c.ty)
class columns (minus a) = and_then (class columns a) negation_class
class columns (not a) = and_then (class columns a) opposite_class
class columns (is_null a negated) = and_then (class columns a) null_test_class
class columns (binary op a b) =
    and_then (class columns a) (λ x. and_then (class columns b) (λ y.
    binary_class op (class_beside_day (written_day a) x y) (class_beside_day (written_day b) y x)))

-- all columns that an expression names are there
abbrev pub names_columns : List ColumnDef → Tree → Bool
names_columns columns (literal v) = true
names_columns columns (column name) = is_some (place_of columns name)
names_columns columns (minus a) = names_columns columns a
names_columns columns (not a) = names_columns columns a
names_columns columns (is_null a negated) = names_columns columns a
names_columns columns (binary op a b) = names_columns columns a && names_columns columns b

-- the class of an expression over columns: NoSuchColumn where it names one that isn't there, else TypeMismatch where its
-- classes don't agree
unfoldable pub class_of : List ColumnDef → Expr → Checked Class
class_of columns e = if names_columns columns (tree e) then class columns (tree e) else Err NoSuchColumn
