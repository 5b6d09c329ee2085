-- INSERT, UPDATE and DELETE: a rule of the grammar for each definition.
use Rattle.std.specs.Prelude.{ℕ, neg_ℤ, if◌then◌else◌, List, Option, Some, None}
use Rattle.sql_value.specs.declared.value.Value.{Value}
use Rattle.sql_value.specs.declared.value.Value.TheVariants.{Num}
use Rattle.sql_value.specs.declared.expr.Expr.{Expr}
use Rattle.sql_types.specs.declared.statement.RowStmt.{RowStmt}
use Rattle.sql_types.specs.declared.statement.RowStmt.TheVariants.{Insert, Update, Delete}
use Rattle.spec_syntax.specs.declared.tag.Tag.{Tag}
use Rattle.spec_syntax.specs.declared.tag.Tag.TheVariants as t
use Rattle.spec_syntax.specs.Input.{Parser, ◌>>=◌, ◌>>◌, ◌<$>◌, pure, refuse, peek, take_text, eat, expect, list}
use Rattle.spec_syntax.specs.Expr.{name, literal, whole}

abbrev pub names : Parser (List (List ℕ))
names = list name

-- '(' name {',' name} ')'
unfoldable pub name_list : Parser (List (List ℕ))
name_list = do
  expect t.Open
  found ← names
  expect t.Close
  pure found

abbrev pub number_by : Tag → Parser Value
number_by t.Number = literal
number_by _ = refuse

unfoldable pub number : Parser Value
number = peek >>= number_by

abbrev pub negated : Value → Value
negated (Num s v) = Num s (neg_ℤ v)
negated v = v

abbrev pub value_by : Tag → Parser Value
value_by t.Plus = take_text >> number
value_by t.Minus = take_text >> negated <$> number
value_by _ = literal

-- ['-' | '+'] number | text | bytes | NULL
unfoldable pub value : Parser Value
value = peek >>= value_by

abbrev pub values : Parser (List Value)
values = list value

-- '(' value {',' value} ')'
unfoldable pub row : Parser (List Value)
row = do
  expect t.Open
  found ← values
  expect t.Close
  pure found

abbrev pub rows : Parser (List (List Value))
rows = list row

-- ['(' name {',' name} ')']
unfoldable pub columns : Parser (Option (List (List ℕ)))
columns = do
  open_ ← eat t.Open
  if open_ then (do found ← names; expect t.Close; pure (Some found)) else pure None

-- [INTO] name ['(' name {',' name} ')'] VALUES row {',' row}
unfoldable pub insert : Parser RowStmt
insert = do
  eat t.Into
  table ← name
  found ← columns
  expect t.Values
  all ← rows
  pure (Insert table found all)

-- [WHERE expr]
unfoldable pub filter : Parser (Option Expr)
filter = do
  where_ ← eat t.Where
  if where_ then Some <$> whole else pure None

-- name '=' expr
unfoldable pub assignment : Parser (List ℕ × Expr)
assignment = do
  column ← name
  expect t.Equal
  to ← whole
  pure (column, to)

abbrev pub assignments : Parser (List (List ℕ × Expr))
assignments = list assignment

-- name SET name '=' expr {',' name '=' expr} [WHERE expr]
unfoldable pub update : Parser RowStmt
update = do
  table ← name
  expect t.Set
  sets ← assignments
  cond ← filter
  pure (Update table sets cond)

-- [FROM] name [WHERE expr]
unfoldable pub delete : Parser RowStmt
delete = do
  eat t.From
  table ← name
  cond ← filter
  pure (Delete table cond)
