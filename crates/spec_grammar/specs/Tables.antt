-- The statements that make, change and drop tables, production by production.
use Rattle.std.specs.Prelude.{◌≡◌, ◌<◌, ◌≤◌, ℕ, zero, suc, ◌+◌, Bool, true, false, not, List, [], ◌∷◌, ◌++◌, length, flat_map, bytes_eq, codes, Option, Some, None}
use Rattle.std.specs.List.{list_any}
use Rattle.sql_lex.specs.declared.token.Kind.TheVariants as kind
use Rattle.sql_value.specs.Literal.{digits_after}
use Rattle.sql_value.specs.declared.sql_type.SqlType.{SqlType}
use Rattle.sql_value.specs.declared.sql_type.SqlType.TheVariants as sql
use Rattle.sql_value.specs.declared.column.ColumnDef.{ColumnDef}
use Rattle.sql_value.specs.declared.column.TableKind.{TableKind}
use Rattle.sql_value.specs.declared.column.TableKind.TheVariants.{AppendOnly, Updatable}
use Rattle.sql_types.specs.declared.statement.CreateTable.{CreateTable}
use Rattle.sql_types.specs.declared.statement.CreateIndex.{CreateIndex}
use Rattle.sql_types.specs.declared.statement.Alter.{Alter}
use Rattle.sql_types.specs.declared.statement.Alter.TheVariants.{Add, DropColumn}
use Rattle.spec_grammar.specs.Tokens.{Lexemes, Word, Sign, IsName, Known, OptionalPart, Optional, Listed, Enclosed}
use Rattle.spec_grammar.specs.Rows.{AreNames}

-- ---- types

-- digits, at most nine of them
pub data IsDigits : Lexemes → ℕ → Type 0 where
  digits : (w : List ℕ) {n : ℕ}
      → length w ≤ 9 → digits_after 0 w ≡ Some n
      → IsDigits ((kind.Number, w) ∷ []) n

-- digits [',' digits], the second number 0 where it isn't written
pub data IsPrecision : Lexemes → ℕ × ℕ → Type 0 where
  whole : {a : Lexemes} {p : ℕ} → IsDigits a p → IsPrecision a (p, 0)
  scaled : {a b c : Lexemes} {p s : ℕ}
      → IsDigits a p → Sign (codes ",") b → IsDigits c s
      → IsPrecision (a ++ (b ++ c)) (p, s)

-- type := BIT | INT | BIGINT | DATE | DECIMAL ['(' digits [',' digits] ')'] | NVARCHAR '(' digits ')' |
-- VARBINARY '(' digits ')'
pub data IsType : Lexemes → SqlType → Type 0 where
  bit : {a : Lexemes} → Known (codes "BIT") a → IsType a sql.Bit
  int : {a : Lexemes} → Known (codes "INT") a → IsType a sql.Int
  bigint : {a : Lexemes} → Known (codes "BIGINT") a → IsType a sql.BigInt
  date : {a : Lexemes} → Known (codes "DATE") a → IsType a sql.Date
  decimal : {a : Lexemes} → Known (codes "DECIMAL") a → IsType a (sql.Decimal 18 0)
  decimal_of : {a b : Lexemes} {p s : ℕ}
      → Known (codes "DECIMAL") a → Enclosed IsPrecision b (p, s)
      → IsType (a ++ b) (sql.Decimal p s)
  nvarchar : {a b : Lexemes} {n : ℕ}
      → Known (codes "NVARCHAR") a → Enclosed IsDigits b n
      → IsType (a ++ b) (sql.NVarChar n)
  varbinary : {a b : Lexemes} {n : ℕ}
      → Known (codes "VARBINARY") a → Enclosed IsDigits b n
      → IsType (a ++ b) (sql.VarBinary n)

-- ---- items

-- what stands between the parentheses: a column with what is said of NULL and whether it is the key, or the
-- columns of the key
pub data Item : Type 0 where
  Column : List ℕ → SqlType → Option Bool → Bool → Item
  Key : List (List ℕ) → Item

-- [NULL | NOT NULL], true for NULL
pub data IsNullability : Lexemes → Option Bool → Type 0 where
  unsaid : IsNullability [] None
  null : {a : Lexemes} → Word (codes "NULL") a → IsNullability a (Some true)
  not_null : {a b : Lexemes}
      → Word (codes "NOT") a → Word (codes "NULL") b
      → IsNullability (a ++ b) (Some false)

-- PRIMARY KEY [CLUSTERED]
pub data IsPrimary : Lexemes → Type 0 where
  primary : {a b c : Lexemes}
      → Word (codes "PRIMARY") a → Word (codes "KEY") b → OptionalPart (Word (codes "CLUSTERED")) c
      → IsPrimary (a ++ (b ++ c))

-- [PRIMARY KEY [CLUSTERED]]
pub data IsKeyMark : Lexemes → Bool → Type 0 where
  unmarked : IsKeyMark [] false
  marked : {a : Lexemes} → IsPrimary a → IsKeyMark a true

-- item := name type [NULL | NOT NULL] [PRIMARY KEY [CLUSTERED]] | PRIMARY KEY [CLUSTERED] '(' name {',' name}
-- ')'
pub data IsItem : Lexemes → Item → Type 0 where
  column : {a b c e : Lexemes} {n : List ℕ} {ty : SqlType} {nullable : Option Bool} {key : Bool}
      → IsName a n → IsType b ty → IsNullability c nullable → IsKeyMark e key
      → IsItem (a ++ (b ++ (c ++ e))) (Column n ty nullable key)
  table_key : {a b : Lexemes} {ns : List (List ℕ)}
      → IsPrimary a → Enclosed AreNames b ns
      → IsItem (a ++ b) (Key ns)

-- the primary keys that an item declares
abbrev pub keys_in : Item → List (List (List ℕ))
keys_in (Column n ty nullable true) = (n ∷ []) ∷ []
keys_in (Column n ty nullable false) = []
keys_in (Key ns) = ns ∷ []

abbrev pub keys_of : List Item → List (List (List ℕ))
keys_of items = flat_map keys_in items

-- what is said of NULL; a column of which nothing is said may be NULL unless it is in the key
abbrev pub is_nullable : List (List ℕ) → List ℕ → Option Bool → Bool
is_nullable key n (Some said) = said
is_nullable key n None = not (list_any (λ k. bytes_eq k n) key)

-- the columns that an item declares, of a table with this key
abbrev pub columns_in : List (List ℕ) → Item → List ColumnDef
columns_in key (Column n ty nullable is_key) =
    record { name = n; ty = ty; nullable = is_nullable key n nullable; key_position = 0 } ∷ []
columns_in key (Key ns) = []

abbrev pub columns_of : List (List ℕ) → List Item → List ColumnDef
columns_of key items = flat_map (columns_in key) items

-- ---- what a table says of the ledger

-- the kind of the table, and the names of its history and its view where they are written
pub record Ledger : Type 0 where
  pub kind : TableKind
  pub history : Option (List ℕ)
  pub view : Option (List ℕ)

-- HISTORY_TABLE '=' name
pub data IsHistory : Lexemes → List ℕ → Type 0 where
  history_name : {a b c : Lexemes} {n : List ℕ}
      → Known (codes "HISTORY_TABLE") a → Sign (codes "=") b → IsName c n
      → IsHistory (a ++ (b ++ c)) n

-- LEDGER_VIEW '=' name
pub data IsView : Lexemes → List ℕ → Type 0 where
  view_name : {a b c : Lexemes} {n : List ℕ}
      → Known (codes "LEDGER_VIEW") a → Sign (codes "=") b → IsName c n
      → IsView (a ++ (b ++ c)) n

-- word '=' ON
pub data IsOn (known : List ℕ) : Lexemes → Type 0 where
  on : {a b c : Lexemes}
      → Known known a → Sign (codes "=") b → Word (codes "ON") c
      → IsOn known (a ++ (b ++ c))

-- versions := SYSTEM_VERSIONING '=' ON ['(' HISTORY_TABLE '=' name ')']
pub data IsVersions : Lexemes → Option (List ℕ) → Type 0 where
  versions : {a b : Lexemes} {h : Option (List ℕ)}
      → IsOn (codes "SYSTEM_VERSIONING") a → Optional (Enclosed IsHistory) b h
      → IsVersions (a ++ b) h

-- updatable := LEDGER '=' ON ['(' LEDGER_VIEW '=' name ')']
pub data IsUpdatable : Lexemes → Option (List ℕ) → Type 0 where
  updatable : {a b : Lexemes} {v : Option (List ℕ)}
      → IsOn (codes "LEDGER") a → Optional (Enclosed IsView) b v
      → IsUpdatable (a ++ b) v

pub data Choice : Type 0 where
  Append : Choice
  View : List ℕ → Choice

-- opt := APPEND_ONLY '=' ON | LEDGER_VIEW '=' name
pub data IsChoice : Lexemes → Choice → Type 0 where
  append : {a : Lexemes} → IsOn (codes "APPEND_ONLY") a → IsChoice a Append
  view : {a : Lexemes} {n : List ℕ} → IsView a n → IsChoice a (View n)

-- [opt {',' opt}] as a list
abbrev pub listed : {A : Type 0} → Option (List A) → List A
listed None = []
listed (Some xs) = xs

-- how often APPEND_ONLY is chosen
abbrev pub appends : List Choice → ℕ
appends [] = 0
appends (Append ∷ cs) = appends cs + 1
appends (View n ∷ cs) = appends cs

-- the views that are named
abbrev pub views : List Choice → List (List ℕ)
views [] = []
views (Append ∷ cs) = views cs
views (View n ∷ cs) = n ∷ views cs

-- a list of one, or of none
abbrev pub one_or_none : {A : Type 0} → Option A → List A
one_or_none None = []
one_or_none (Some x) = x ∷ []

-- a table for which APPEND_ONLY isn't chosen is updatable
abbrev pub kind_of : ℕ → TableKind
kind_of zero = Updatable
kind_of (suc n) = AppendOnly

-- ledger := versions ',' updatable | updatable ',' versions | LEDGER '=' ON ['(' opt {',' opt} ')'], each opt
-- at most once
pub data IsLedger : Lexemes → Ledger → Type 0 where
  versions_first : {a b c : Lexemes} {h v : Option (List ℕ)}
      → IsVersions a h → Sign (codes ",") b → IsUpdatable c v
      → IsLedger (a ++ (b ++ c)) (record { kind = Updatable; history = h; view = v })
  versions_last : {a b c : Lexemes} {h v : Option (List ℕ)}
      → IsUpdatable a v → Sign (codes ",") b → IsVersions c h
      → IsLedger (a ++ (b ++ c)) (record { kind = Updatable; history = h; view = v })
  alone : {a b : Lexemes} {found : Option (List Choice)} {v : Option (List ℕ)}
      → IsOn (codes "LEDGER") a → Optional (Enclosed (Listed IsChoice)) b found → appends (listed found) ≤ 1
      → views (listed found) ≡ one_or_none v
      → IsLedger (a ++ b) (record { kind = kind_of (appends (listed found)); history = None; view = v })

-- [WITH '(' ledger ')'], without which a table is updatable
pub data IsLedgerPart : Lexemes → Ledger → Type 0 where
  unsaid_part : IsLedgerPart [] (record { kind = Updatable; history = None; view = None })
  said_part : {a b : Lexemes} {l : Ledger}
      → Word (codes "WITH") a → Enclosed IsLedger b l
      → IsLedgerPart (a ++ b) l

-- ---- the statements

-- create := CREATE TABLE name '(' item {',' item} ')' [WITH '(' ledger ')'], with exactly one primary key and
-- at least one column
pub data IsCreateTable : Lexemes → CreateTable → Type 0 where
  create_table : {a b c e f : Lexemes} {n : List ℕ} {items : List Item} {key : List (List ℕ)} {l : Ledger}
      → Word (codes "CREATE") a → Word (codes "TABLE") b → IsName c n → Enclosed (Listed IsItem) e items
      → IsLedgerPart f l → keys_of items ≡ key ∷ [] → 0 < length (columns_of key items)
      → IsCreateTable (a ++ (b ++ (c ++ (e ++ f))))
      (record {
        name = n;
        columns = columns_of key items;
        key = key;
        kind = l.kind;
        history = l.history;
        view = l.view;
      })

-- index := CREATE [NONCLUSTERED] INDEX name ON name '(' name {',' name} ')'
pub data IsCreateIndex : Lexemes → CreateIndex → Type 0 where
  create_index : {a b c e f g h : Lexemes} {n table : List ℕ} {columns : List (List ℕ)}
      → Word (codes "CREATE") a → OptionalPart (Word (codes "NONCLUSTERED")) b → Word (codes "INDEX") c → IsName e n
      → Word (codes "ON") f → IsName g table → Enclosed AreNames h columns
      → IsCreateIndex (a ++ (b ++ (c ++ (e ++ (f ++ (g ++ h))))))
      (record { name = n; table = table; columns = columns })

-- a column that is added may be NULL and is in no key
abbrev pub added_column : List ℕ → SqlType → ColumnDef
added_column n ty = record { name = n; ty = ty; nullable = true; key_position = 0 }

-- alter := ALTER TABLE name ADD name type [NULL] | ALTER TABLE name DROP COLUMN name
pub data IsAlter : Lexemes → Alter → Type 0 where
  add : {a b c e f g h : Lexemes} {table n : List ℕ} {ty : SqlType}
      → Word (codes "ALTER") a → Word (codes "TABLE") b → IsName c table → Word (codes "ADD") e
      → IsName f n → IsType g ty → OptionalPart (Word (codes "NULL")) h
      → IsAlter (a ++ (b ++ (c ++ (e ++ (f ++ (g ++ h)))))) (Add table (added_column n ty))
  drop_column : {a b c e f g : Lexemes} {table n : List ℕ}
      → Word (codes "ALTER") a → Word (codes "TABLE") b → IsName c table → Word (codes "DROP") e
      → Word (codes "COLUMN") f → IsName g n
      → IsAlter (a ++ (b ++ (c ++ (e ++ (f ++ g))))) (DropColumn table n)

-- drop := DROP TABLE name
pub data IsDrop : Lexemes → List ℕ → Type 0 where
  drop_table : {a b c : Lexemes} {table : List ℕ}
      → Word (codes "DROP") a → Word (codes "TABLE") b → IsName c table
      → IsDrop (a ++ (b ++ c)) table
