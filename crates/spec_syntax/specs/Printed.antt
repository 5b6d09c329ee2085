-- What is printed of names, literals and expressions.
use Rattle.std.specs.Prelude.{ℕ, Bool, true, false, List, [], ◌∷◌, ◌++◌, codes}
use Rattle.std.specs.Fmt.{decimal}
use Rattle.sql_value.specs.declared.value.Value.{Value}
use Rattle.sql_value.specs.declared.value.Value.TheVariants as value
use Rattle.sql_value.specs.declared.expr.Op.{Op}
use Rattle.sql_value.specs.declared.expr.Op.TheVariants as op
use Rattle.sql_value.specs.Printed.{literal_text}
use Rattle.sql_value.specs.Tree.{Tree, literal, column, minus, not, is_null, binary}
use Rattle.spec_syntax.specs.declared.tag.Tag.{Tag}
use Rattle.spec_syntax.specs.declared.tag.Tag.TheVariants as t
use Rattle.spec_syntax.specs.Input.{Sym}

-- ---- signs and words

-- how a sign or a reserved word is printed
unfoldable pub spelling : Tag → List ℕ
spelling t.Open = codes "("
spelling t.Close = codes ")"
spelling t.Comma = codes ","
spelling t.Equal = codes "="
spelling t.NotEqual = codes "<>"
spelling t.Less = codes "<"
spelling t.LessEqual = codes "<="
spelling t.Greater = codes ">"
spelling t.GreaterEqual = codes ">="
spelling t.Plus = codes "+"
spelling t.Minus = codes "-"
spelling t.Star = codes "*"
spelling t.Add = codes "ADD"
spelling t.Alter = codes "ALTER"
spelling t.And = codes "AND"
spelling t.Asc = codes "ASC"
spelling t.Begin = codes "BEGIN"
spelling t.By = codes "BY"
spelling t.Column = codes "COLUMN"
spelling t.Commit = codes "COMMIT"
spelling t.Create = codes "CREATE"
spelling t.Delete = codes "DELETE"
spelling t.Desc = codes "DESC"
spelling t.Drop = codes "DROP"
spelling t.Execute = codes "EXECUTE"
spelling t.From = codes "FROM"
spelling t.Index = codes "INDEX"
spelling t.Insert = codes "INSERT"
spelling t.Into = codes "INTO"
spelling t.Is = codes "IS"
spelling t.Key = codes "KEY"
spelling t.Not = codes "NOT"
spelling t.Null = codes "NULL"
spelling t.On = codes "ON"
spelling t.Or = codes "OR"
spelling t.Order = codes "ORDER"
spelling t.Primary = codes "PRIMARY"
spelling t.Rollback = codes "ROLLBACK"
spelling t.Save = codes "SAVE"
spelling t.Select = codes "SELECT"
spelling t.Set = codes "SET"
spelling t.Table = codes "TABLE"
spelling t.Transaction = codes "TRANSACTION"
spelling t.Update = codes "UPDATE"
spelling t.Values = codes "VALUES"
spelling t.Where = codes "WHERE"
spelling t.With = codes "WITH"
spelling _ = []

abbrev pub key : Tag → Sym
key tag = (tag, spelling tag)

-- a word that is not reserved
abbrev pub word : List ℕ → Sym
word w = (t.Word, w)

abbrev pub digits : ℕ → Sym
digits n = (t.Number, decimal n)

abbrev pub name : List ℕ → Sym
name n = (t.Bracketed, 91 ∷ (n ++ 93 ∷ []))

abbrev pub literal_tag : Value → Tag
literal_tag value.Null = t.Null
literal_tag (value.Num s v) = t.Number
literal_tag (value.Text x) = t.Text
literal_tag (value.Bytes b) = t.Bytes
literal_tag (value.Date d) = t.Text

-- A negative number is written with its sign directly before it.
abbrev pub literal_sym : Value → Sym
literal_sym v = (literal_tag v, literal_text v)

-- ---- lists

abbrev pub enclosed : List Sym → List Sym
enclosed ts = key t.Open ∷ (ts ++ key t.Close ∷ [])

module _ {A : Type 0} (item : A → List Sym) where
  -- each with a comma before it
  unfoldable pub rest_listed : List A → List Sym
  rest_listed [] = []
  rest_listed (x ∷ xs) = key t.Comma ∷ (item x ++ rest_listed xs)

  -- with commas between
  unfoldable pub listed : List A → List Sym
  listed [] = []
  listed (x ∷ xs) = item x ++ rest_listed xs

-- ---- expressions, with parentheses round each operator's whole expression

abbrev pub op_tag : Op → Tag
op_tag op.Add = t.Plus
op_tag op.Sub = t.Minus
op_tag op.Mul = t.Star
op_tag op.Eq = t.Equal
op_tag op.Ne = t.NotEqual
op_tag op.Lt = t.Less
op_tag op.Le = t.LessEqual
op_tag op.Gt = t.Greater
op_tag op.Ge = t.GreaterEqual
op_tag op.And = t.And
op_tag op.Or = t.Or

abbrev pub null : Bool → List Sym
null true = key t.Is ∷ key t.Not ∷ key t.Null ∷ []
null false = key t.Is ∷ key t.Null ∷ []

abbrev pub expr : Tree → List Sym
expr (literal v) = literal_sym v ∷ []
expr (column n) = name n ∷ []
expr (minus a) = enclosed (key t.Minus ∷ expr a)
expr (not a) = enclosed (key t.Not ∷ expr a)
expr (is_null a negated) = enclosed (expr a ++ null negated)
expr (binary o a b) = enclosed (expr a ++ key (op_tag o) ∷ expr b)
