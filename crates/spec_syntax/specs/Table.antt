-- CREATE TABLE, CREATE INDEX, ALTER TABLE and DROP TABLE: a rule of the grammar for each definition.
use Rattle.std.specs.Prelude.{ℕ, Bool, true, false, not, if◌then◌else◌, nat_le, List, [], ◌∷◌, ◌++◌, length, map, bytes_eq, Option, Some, None}
use Rattle.sql_value.specs.Literal.{digits_after}
use Rattle.sql_value.specs.declared.sql_type.SqlType.{SqlType}
use Rattle.sql_value.specs.declared.sql_type.SqlType.TheVariants as sql
use Rattle.sql_value.specs.declared.column.ColumnDef.{ColumnDef}
use Rattle.sql_types.specs.declared.statement.CreateTable.{CreateTable}
use Rattle.sql_types.specs.declared.statement.CreateIndex.{CreateIndex}
use Rattle.sql_types.specs.declared.statement.Alter.{Alter}
use Rattle.sql_types.specs.declared.statement.Alter.TheVariants.{Add, DropColumn}
use Rattle.spec_syntax.specs.declared.tag.Tag.{Tag}
use Rattle.spec_syntax.specs.declared.tag.Tag.TheVariants as t
use Rattle.spec_syntax.specs.declared.word.TypeName.{TypeName}
use Rattle.spec_syntax.specs.declared.word.TypeName.TheVariants as type_name
use Rattle.spec_syntax.specs.declared.column.Column.{Column}
use Rattle.spec_syntax.specs.declared.column.Draft.{Draft}
use Rattle.spec_syntax.specs.declared.column.Item.{Item}
use Rattle.spec_syntax.specs.declared.column.Item.TheVariants as item
use Rattle.spec_syntax.specs.Input.{Parser, ◌>>=◌, ◌>>◌, ◌<$>◌, pure, refuse, required, peek, take_text, eat, expect, fold}
use Rattle.spec_syntax.specs.Expr.{name}
use Rattle.spec_syntax.specs.Words.{type_word}
use Rattle.spec_syntax.specs.Row.{name_list}
use Rattle.spec_syntax.specs.declared.ledger.Ledger.{Ledger}
use Rattle.spec_syntax.specs.Ledger.{ledger_part}

-- the number that digits write, at most nine of them
unfoldable pub digits_of : List ℕ → Option ℕ
digits_of w = if nat_le (length w) 9 then digits_after 0 w else None

abbrev pub digits_by : Tag → Parser ℕ
digits_by t.Number = take_text >>= (λ w. required (digits_of w))
digits_by _ = refuse

unfoldable pub digits : Parser ℕ
digits = peek >>= digits_by

-- '(' digits ')'
unfoldable pub size : Parser ℕ
size = do
  expect t.Open
  n ← digits
  expect t.Close
  pure n

-- [',' digits], 0 where they are not written
unfoldable pub scale : Parser ℕ
scale = do
  comma ← eat t.Comma
  if comma then digits else pure 0

-- ['(' digits [',' digits] ')'], where DECIMAL alone is DECIMAL(18,0)
unfoldable pub decimal : Parser SqlType
decimal = do
  open_ ← eat t.Open
  if open_
      then (do p ← digits; s ← scale; expect t.Close; pure (sql.Decimal p s))
      else pure (sql.Decimal 18 0)

abbrev pub type_by : TypeName → Parser SqlType
type_by type_name.Bit = pure sql.Bit
type_by type_name.Int = pure sql.Int
type_by type_name.BigInt = pure sql.BigInt
type_by type_name.Date = pure sql.Date
type_by type_name.Decimal = decimal
type_by type_name.NVarChar = sql.NVarChar <$> size
type_by type_name.VarBinary = sql.VarBinary <$> size

unfoldable pub sql_type : Parser SqlType
sql_type = type_word >>= type_by

abbrev pub nullable_by : Tag → Parser (Option Bool)
nullable_by t.Null = take_text >> pure (Some true)
nullable_by t.Not = take_text >> expect t.Null >> pure (Some false)
nullable_by _ = pure None

-- [NULL | NOT NULL]
unfoldable pub nullable : Parser (Option Bool)
nullable = peek >>= nullable_by

-- [PRIMARY KEY [CLUSTERED]]
unfoldable pub is_key : Parser Bool
is_key = do
  primary ← eat t.Primary
  if primary then (do expect t.Key; eat t.Clustered; pure true) else pure false

-- name type [NULL | NOT NULL] [PRIMARY KEY [CLUSTERED]]
unfoldable pub column : Parser Item
column = do
  n ← name
  ty ← sql_type
  null_ ← nullable
  key ← is_key
  pure (item.Column (record { name = n; ty = ty; nullable = null_ }) key)

-- KEY [CLUSTERED] '(' name {',' name} ')'
unfoldable pub key : Parser Item
key = do
  expect t.Key
  eat t.Clustered
  names ← name_list
  pure (item.Key names)

abbrev pub item_by : Tag → Parser Item
item_by t.Primary = take_text >> key
item_by _ = column

unfoldable pub one_item : Parser Item
one_item = peek >>= item_by

-- no table has two primary keys
abbrev pub with_key : List Column → Option (List (List ℕ)) → List (List ℕ) → Option Draft
with_key columns (Some old) names = None
with_key columns None names = Some (record { columns = columns; key = Some names })

-- the columns and the key so far with this item
abbrev pub with_item : Draft → Item → Option Draft
with_item d (item.Column c false) = Some (record { columns = d.columns ++ c ∷ []; key = d.key })
with_item d (item.Column c true) = with_key (d.columns ++ c ∷ []) d.key (c.name ∷ [])
with_item d (item.Key names) = with_key d.columns d.key names

unfoldable pub item_step : Draft → Parser Draft
item_step d = do
  found ← one_item
  required (with_item d found)

abbrev pub items : Draft → Parser Draft
items = fold item_step

abbrev pub no_items : Draft
no_items = record { columns = []; key = None }

abbrev pub is_in : List (List ℕ) → List ℕ → Bool
is_in [] name = false
is_in (n ∷ ns) name = if bytes_eq n name then true else is_in ns name

-- what is written, else whether the column is outside the key
abbrev pub nullable_of : Option Bool → Bool → Bool
nullable_of (Some written) in_key = written
nullable_of None in_key = not in_key

abbrev pub column_def : List (List ℕ) → Column → ColumnDef
column_def key c =
    record {
      name = c.name;
      ty = c.ty;
      nullable = nullable_of c.nullable (is_in key c.name);
      key_position = 0;
    }

-- a table has a column and a primary key
abbrev pub table_of : List ℕ → List Column → Option (List (List ℕ)) → Ledger → Option CreateTable
table_of n [] key l = None
table_of n (c ∷ cs) None l = None
table_of n (c ∷ cs) (Some key) l =
    let columns = map (column_def key) (c ∷ cs) in
    Some (record {
      name = n;
      columns = columns;
      key = key;
      kind = l.kind;
      history = l.history;
      view = l.view;
    })

-- name '(' item {',' item} ')' [WITH '(' ledger ')']
unfoldable pub create_table : Parser CreateTable
create_table = do
  n ← name
  expect t.Open
  d ← items no_items
  expect t.Close
  l ← ledger_part
  required (table_of n d.columns d.key l)

-- name ON name '(' name {',' name} ')'
unfoldable pub create_index : Parser CreateIndex
create_index = do
  n ← name
  expect t.On
  of ← name
  names ← name_list
  pure (record { name = n; table = of; columns = names })

-- a column that is added may be NULL and is in no key
abbrev pub added_column : List ℕ → SqlType → ColumnDef
added_column n ty = record { name = n; ty = ty; nullable = true; key_position = 0 }

-- name type [NULL]
unfoldable pub add : List ℕ → Parser Alter
add table = do
  n ← name
  ty ← sql_type
  eat t.Null
  pure (Add table (added_column n ty))

-- COLUMN name
unfoldable pub drop_column : List ℕ → Parser Alter
drop_column table = expect t.Column >> DropColumn table <$> name

abbrev pub alter_by : List ℕ → Tag → Parser Alter
alter_by table t.Add = take_text >> add table
alter_by table t.Drop = take_text >> drop_column table
alter_by table _ = refuse

-- TABLE name (ADD .. | DROP COLUMN ..)
unfoldable pub alter_table : Parser Alter
alter_table = do
  expect t.Table
  table ← name
  tag ← peek
  alter_by table tag

-- TABLE name
unfoldable pub drop_table : Parser (List ℕ)
drop_table = expect t.Table >> name
