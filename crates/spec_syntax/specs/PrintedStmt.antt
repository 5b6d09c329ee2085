-- What is printed of statements.
use Rattle.std.specs.Prelude.{ℕ, Bool, true, false, if◌then◌else◌, List, [], ◌∷◌, ◌++◌, codes, Option, Some, None}
use Rattle.sql_value.specs.declared.value.Value.{Value}
use Rattle.sql_value.specs.declared.expr.Expr.{Expr}
use Rattle.sql_value.specs.declared.sql_type.SqlType.{SqlType}
use Rattle.sql_value.specs.declared.sql_type.SqlType.TheVariants as sql
use Rattle.sql_value.specs.declared.column.ColumnDef.{ColumnDef}
use Rattle.sql_value.specs.declared.column.TableKind.{TableKind}
use Rattle.sql_value.specs.declared.column.TableKind.TheVariants.{AppendOnly, Updatable}
use Rattle.sql_value.specs.Tree.{tree}
use Rattle.sql_types.specs.declared.statement.Stmt.{Stmt}
use Rattle.sql_types.specs.declared.statement.Stmt.TheVariants as stmt
use Rattle.sql_types.specs.declared.statement.CreateTable.{CreateTable}
use Rattle.sql_types.specs.declared.statement.CreateIndex.{CreateIndex}
use Rattle.sql_types.specs.declared.statement.Alter.{Alter}
use Rattle.sql_types.specs.declared.statement.Alter.TheVariants.{Add, DropColumn}
use Rattle.sql_types.specs.declared.statement.RowStmt.{RowStmt}
use Rattle.sql_types.specs.declared.statement.RowStmt.TheVariants.{Insert, Update, Delete}
use Rattle.sql_types.specs.declared.statement.Select.{Select}
use Rattle.sql_types.specs.declared.statement.SelectList.{SelectList}
use Rattle.sql_types.specs.declared.statement.SelectList.TheVariants.{All, Columns, Aggs}
use Rattle.sql_types.specs.declared.statement.Agg.{Agg}
use Rattle.sql_types.specs.declared.statement.Agg.TheVariants as aggregate
use Rattle.spec_syntax.specs.declared.tag.Tag.TheVariants as t
use Rattle.spec_syntax.specs.Input.{Sym}
use Rattle.spec_syntax.specs.Printed.{key, word, digits, name, literal_sym, enclosed, listed, expr}
use Rattle.spec_syntax.specs.Page.{spelled}

abbrev pub one_name : List ℕ → List Sym
one_name n = name n ∷ []

abbrev pub names : List (List ℕ) → List Sym
names ns = enclosed (listed one_name ns)

-- ---- CREATE TABLE, CREATE INDEX, ALTER TABLE and DROP TABLE

unfoldable pub sql_type : SqlType → List Sym
sql_type sql.Bit = word (codes "BIT") ∷ []
sql_type sql.Int = word (codes "INT") ∷ []
sql_type sql.BigInt = word (codes "BIGINT") ∷ []
sql_type sql.Date = word (codes "DATE") ∷ []
sql_type (sql.Decimal p s) = word (codes "DECIMAL") ∷ enclosed (digits p ∷ key t.Comma ∷ digits s ∷ [])
sql_type (sql.NVarChar n) = word (codes "NVARCHAR") ∷ enclosed (digits n ∷ [])
sql_type (sql.VarBinary n) = word (codes "VARBINARY") ∷ enclosed (digits n ∷ [])

unfoldable pub nullable : Bool → List Sym
nullable true = key t.Null ∷ []
nullable false = key t.Not ∷ key t.Null ∷ []

unfoldable pub column : ColumnDef → List Sym
column d = name d.name ∷ (sql_type d.ty ++ nullable d.nullable)

-- '=' ON
abbrev pub on : List Sym
on = key t.Equal ∷ key t.On ∷ []

abbrev pub history : Option (List ℕ) → List Sym
history (Some h) = enclosed (word (codes "HISTORY_TABLE") ∷ key t.Equal ∷ name h ∷ [])
history None = []

abbrev pub view : List ℕ → List Sym
view v = word (codes "LEDGER_VIEW") ∷ key t.Equal ∷ name v ∷ []

abbrev pub own_view : Option (List ℕ) → List Sym
own_view (Some v) = enclosed (view v)
own_view None = []

abbrev pub more_view : Option (List ℕ) → List Sym
more_view (Some v) = key t.Comma ∷ view v
more_view None = []

-- SYSTEM_VERSIONING and then LEDGER
abbrev pub updatable : Option (List ℕ) → Option (List ℕ) → List Sym
updatable h v =
    word (codes "SYSTEM_VERSIONING") ∷ on ++ history h
    ++ key t.Comma ∷ word (codes "LEDGER") ∷ on ++ own_view v

unfoldable pub choices : Option (List ℕ) → List Sym
choices v = word (codes "APPEND_ONLY") ∷ on ++ more_view v

abbrev pub append_only : Option (List ℕ) → List Sym
append_only v = word (codes "LEDGER") ∷ on ++ enclosed (choices v)

unfoldable pub ledger : TableKind → Option (List ℕ) → Option (List ℕ) → List Sym
ledger Updatable h v = updatable h v
ledger AppendOnly h v = append_only v

-- the columns and the primary key
abbrev pub table_items : CreateTable → List Sym
table_items c = listed column c.columns ++ key t.Comma ∷ key t.Primary ∷ key t.Key ∷ names c.key

unfoldable pub create_table : CreateTable → List Sym
create_table c =
    key t.Create ∷ key t.Table ∷ name c.name
    ∷ (enclosed (table_items c) ++ key t.With ∷ enclosed (ledger c.kind c.history c.view))

unfoldable pub create_index : CreateIndex → List Sym
create_index c = key t.Create ∷ key t.Index ∷ name c.name ∷ key t.On ∷ name c.table ∷ names c.columns

unfoldable pub alter_table : Alter → List Sym
alter_table (Add table d) = key t.Alter ∷ key t.Table ∷ name table ∷ key t.Add ∷ column d
alter_table (DropColumn table n) =
    key t.Alter ∷ key t.Table ∷ name table ∷ key t.Drop ∷ key t.Column ∷ name n ∷ []

unfoldable pub drop_table : List ℕ → List Sym
drop_table n = key t.Drop ∷ key t.Table ∷ name n ∷ []

-- ---- INSERT, UPDATE and DELETE

abbrev pub literal : Value → List Sym
literal v = literal_sym v ∷ []

abbrev pub row : List Value → List Sym
row vs = enclosed (listed literal vs)

abbrev pub columns : Option (List (List ℕ)) → List Sym
columns (Some ns) = names ns
columns None = []

abbrev pub filter : Option Expr → List Sym
filter (Some e) = key t.Where ∷ expr (tree e)
filter None = []

abbrev pub assignment : List ℕ × Expr → List Sym
assignment p = name p.0 ∷ key t.Equal ∷ expr (tree p.1)

unfoldable pub change : RowStmt → List Sym
change (Insert table found rows) =
    key t.Insert ∷ key t.Into ∷ name table ∷ (columns found ++ key t.Values ∷ listed row rows)
change (Update table sets cond) =
    key t.Update ∷ name table ∷ key t.Set ∷ (listed assignment sets ++ filter cond)
change (Delete table cond) = key t.Delete ∷ key t.From ∷ name table ∷ filter cond

-- ---- SELECT

abbrev pub agg : Agg → List Sym
agg aggregate.Count = word (codes "COUNT") ∷ enclosed (key t.Star ∷ [])
agg (aggregate.Sum n) = word (codes "SUM") ∷ enclosed (name n ∷ [])

abbrev pub what : SelectList → List Sym
what All = key t.Star ∷ []
what (Columns ns) = listed one_name ns
what (Aggs all) = listed agg all

abbrev pub sort : List ℕ × Bool → List Sym
sort p = name p.0 ∷ key (if p.1 then t.Desc else t.Asc) ∷ []

abbrev pub order : List (List ℕ × Bool) → List Sym
order [] = []
order (s ∷ ss) = key t.Order ∷ key t.By ∷ listed sort (s ∷ ss)

unfoldable pub select : Select → List Sym
select s = key t.Select ∷ (what s.what ++ key t.From ∷ name s.table ∷ (filter s.cond ++ order s.order))

-- ---- statements

abbrev pub savepoint : Option (List ℕ) → List Sym
savepoint (Some n) = name n ∷ []
savepoint None = []

unfoldable pub rollback : Option (List ℕ) → List Sym
rollback to = key t.Rollback ∷ key t.Transaction ∷ savepoint to

unfoldable pub tokens : Stmt → List Sym
tokens (stmt.Create c) = create_table c
tokens (stmt.Index c) = create_index c
tokens (stmt.Alter a) = alter_table a
tokens (stmt.Drop n) = drop_table n
tokens (stmt.Change c) = change c
tokens (stmt.Select s) = select s
tokens stmt.Begin = key t.Begin ∷ key t.Transaction ∷ []
tokens stmt.Commit = key t.Commit ∷ key t.Transaction ∷ []
tokens (stmt.Save n) = key t.Save ∷ key t.Transaction ∷ name n ∷ []
tokens (stmt.Rollback to) = rollback to
tokens stmt.Digest = key t.Execute ∷ word (codes "SP_GENERATE_DATABASE_LEDGER_DIGEST") ∷ []
tokens stmt.Image = key t.Save ∷ word (codes "IMAGE") ∷ []

-- the text of a statement
unfoldable pub printed : Stmt → List ℕ
printed s = spelled (tokens s)
