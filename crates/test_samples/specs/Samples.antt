-- Small statements and tables, for worked examples.
use Rattle.std.specs.Prelude.{ℕ, List}
use Rattle.std.specs.Prelude.{ℤ, negsuc, ◌+◌, pos, Bool, true, false, [], ◌∷◌, ◌++◌, codes, Option, Some, None, slice_get, map}
use Rattle.sql_value.specs.declared.value.Value.{Value}
use Rattle.sql_value.specs.declared.value.Value.TheVariants.{Num, Text}
use Rattle.sql_types.specs.declared.statement.SelectList.{SelectList}
use Rattle.sql_value.specs.declared.column.ColumnDef.{ColumnDef}
use Rattle.sql_value.specs.declared.column.TableKind.{TableKind}
use Rattle.sql_value.specs.declared.column.TableKind.TheVariants.{AppendOnly, Updatable}
use Rattle.sql_value.specs.declared.sql_type.SqlType.{SqlType}
use Rattle.sql_value.specs.declared.sql_type.SqlType.TheVariants.{Int, NVarChar, Decimal}
use Rattle.sql_value.specs.declared.expr.Op.TheVariants as op
use Rattle.sql_value.specs.declared.expr.Expr.{Expr}
use Rattle.sql_value.specs.declared.expr.Expr.TheVariants.{Lit, Col, Bin}
use Rattle.sql_types.specs.declared.statement.Stmt.{Stmt}
use Rattle.sql_types.specs.declared.statement.Stmt.TheVariants as s
use Rattle.sql_types.specs.declared.statement.RowStmt.{RowStmt}
use Rattle.sql_types.specs.declared.statement.Select.{Select}
use Rattle.sql_types.specs.declared.statement.Alter.TheVariants.{Add, DropColumn}
use Rattle.sql_types.specs.declared.statement.RowStmt.TheVariants.{Insert, Delete, Update}
use Rattle.sql_types.specs.declared.statement.SelectList.TheVariants.{All}
use Rattle.sql_types.specs.declared.table.TableDef.{TableDef}
use Rattle.sql_types.specs.declared.version.Version.{Version}
use Rattle.sql_types.specs.declared.version.TypedValue.{TypedValue}
use Rattle.sql_types.specs.declared.version.Table.{Table}
use Rattle.sql_value.specs.declared.expr.Op.{Op}
use Rattle.spec_model.specs.Catalog.{Tables}
use Rattle.spec_model.specs.SystemTables.{first_tables}
use Rattle.spec_model.specs.Create.{table_def}
use Rattle.spec_model.specs.Effect.{effect}
use Rattle.spec_model.specs.Replies.{reply_lines}
use Rattle.spec_model.specs.Script.{script}
use Rattle.sql_types.specs.declared.journal.JournalItem.{JournalItem}
use Rattle.sql_types.specs.declared.journal.JournalItem.TheVariants.{Tx, Close}

abbrev pub column : List ℕ → SqlType → Bool → ColumnDef
column name ty nullable = record { name = name; ty = ty; nullable = nullable; key_position = 0 }

abbrev pub create : List ℕ → List ColumnDef → TableKind → Option (List ℕ) → Stmt
create name columns kind history =
    s.Create (record {
      name =
          name;
      columns = columns;
      key = codes "id" ∷ [];
      kind = kind;
      history = history;
      view = None;
    })

-- CREATE TABLE t (id INT PRIMARY KEY, v INT)
abbrev pub create_t : Stmt
create_t =
    create (codes "t") (column (codes "id") Int false ∷ column (codes "v") Int true ∷ []) Updatable None

-- ALTER TABLE t ADD
abbrev pub add_to_t : List ℕ → SqlType → Stmt
add_to_t name ty = s.Alter (Add (codes "t") (column name ty true))

-- ALTER TABLE t DROP COLUMN
abbrev pub drop_of_t : List ℕ → Stmt
drop_of_t name = s.Alter (DropColumn (codes "t") name)

abbrev pub insert : List ℕ → List (List Value) → Stmt
insert table rows = s.Change (Insert table None rows)

abbrev pub all_of : List ℕ → Stmt
all_of name = s.Select (record { table = name; what = All; cond = None; order = [] })

abbrev pub num : ℕ → Value
num n = Num 0 (pos n)

abbrev pub answers : Tables → ℕ → List Stmt → List (List (List ℕ))
answers tables tx [] = []
answers tables tx (x ∷ xs) =
    let e = effect tables tx 0 x in reply_lines e.reply ∷ answers e.tables (tx + 1) xs

abbrev pub plus_one : Expr
plus_one = Bin op.Add (Col (codes "v")) (Lit (num 1))

abbrev pub typed : ℕ → Option TypedValue
typed n = Some (record { ty = Int; value = num n })

abbrev pub version : ℕ → ℕ → ℕ × ℕ → Option (ℕ × ℕ) → Version
version id v start end = record { values = typed id ∷ typed v ∷ []; start = start; end = end }

abbrev pub key_column : List ℕ → SqlType → ColumnDef
key_column name ty = record { name = name; ty = ty; nullable = false; key_position = 1 }

abbrev pub def_t : TableDef
def_t = record {
  id = 3;
  name = codes "t";
  kind = Updatable;
  gone = false;
  history = codes "MSSQL_LedgerHistoryFor_3";
  view = codes "t_Ledger";
  columns = key_column (codes "id") Int ∷ column (codes "v") Int true ∷ [];
  dropped = [];
  indexes = [];
}

-- the tables where t each_alone is made, with these versions of its rows
abbrev pub with_t : List Version → Tables
with_t versions = first_tables ++ record { def = def_t; versions = versions } ∷ []

abbrev pub update_t : Stmt
update_t = s.Change (Update (codes "t") ((codes "v", plus_one) ∷ []) None)

abbrev pub id_is : Value → Expr
id_is v = Bin op.Eq (Col (codes "id")) (Lit v)

abbrev pub listed : List (List ℕ) → List (List Value) → Stmt
listed names rows = s.Change (Insert (codes "t") (Some names) rows)

-- CREATE TABLE x (a INT NULL PRIMARY KEY, b DECIMAL(39))
abbrev pub create_x : SqlType → Stmt
create_x ty =
    create (codes "x") (column (codes "id") Int true ∷ column (codes "b") ty true ∷ []) Updatable None

abbrev pub select : List ℕ → SelectList → List (List ℕ × Bool) → Stmt
select table what order = s.Select (record { table = table; what = what; cond = None; order = order })

abbrev pub four : Tables
four =
    with_t
    (record { values = typed 1 ∷ typed 7 ∷ []; start = (2, 0); end = None }
    ∷ record { values = typed 2 ∷ None ∷ []; start = (2, 1); end = None }
    ∷ version 4 7 (2, 2) None ∷ version 3 5 (2, 3) None ∷ [])

abbrev pub answer : Tables → Stmt → List (List ℕ)
answer tables stmt = reply_lines (effect tables 9 0 stmt).reply

abbrev pub index_on : List ℕ → List ℕ → List (List ℕ) → Stmt
index_on name table columns = s.Index (record { name = name; table = table; columns = columns })

abbrev pub made_tables : List ℕ → Tables
made_tables ns = first_tables ++ map (λ n. record {
  def = table_def n (record {
    name = n ∷ [];
    columns = column (codes "id") Int false ∷ [];
    key = codes "id" ∷ [];
    kind = AppendOnly;
    history = None;
    view = None;
  });
  versions = [];
}) ns

abbrev pub delete_1 : Stmt
delete_1 = s.Change (Delete (codes "t") (Some (id_is (num 1))))

abbrev pub name_column : List ℕ → ColumnDef
name_column name = column name (NVarChar 50) false

abbrev pub create_balance : Stmt
create_balance = s.Create (record {
  name = codes "Balance";
  columns =
      column (codes "CustomerID") Int false ∷ name_column (codes "LastName") ∷ name_column (codes "FirstName")
      ∷ column (codes "Balance") (Decimal 10 2) false ∷ [];
  key = codes "CustomerID" ∷ [];
  kind = Updatable;
  history = Some (codes "BalanceHistory");
  view = None;
})

abbrev pub def_balance : TableDef
def_balance = record {
  id = 3;
  name = codes "Balance";
  kind = Updatable;
  gone = false;
  history = codes "BalanceHistory";
  view = codes "Balance_Ledger";
  columns =
      key_column (codes "CustomerID") Int ∷ name_column (codes "LastName") ∷ name_column (codes "FirstName")
      ∷ column (codes "Balance") (Decimal 10 2) false ∷ [];
  dropped = [];
  indexes = [];
}

abbrev pub of_nick : ℕ → List (Option TypedValue)
of_nick units =
    typed 1 ∷ Some (record {
      ty =
          NVarChar 50;
      value = Text (codes "Jones");
    })
    ∷ Some (record { ty = NVarChar 50; value = Text (codes "Nick") })
    ∷ Some (record { ty = Decimal 10 2; value = Num 2 (pos units) }) ∷ []

abbrev pub balance : List Version → List Table
balance versions = first_tables ++ record { def = def_balance; versions = versions } ∷ []

abbrev pub set_100 : RowStmt
set_100 =
    Update (codes "Balance") ((codes "Balance", Lit (num 100)) ∷ [])
    (Some (Bin op.Eq (Col (codes "CustomerID")) (Lit (num 1))))

-- SELECT * FROM t WHERE id = 5 and INSERT INTO t VALUES (5, 1)
abbrev pub select_5 : Select
select_5 = record { table = codes "t"; what = All; cond = Some (id_is (num 5)); order = [] }

-- a text is the number of a statement in this list; any other is none
abbrev pub read_in : List Stmt → List ℕ → Option Stmt
read_in stmts (n ∷ []) = slice_get stmts n
read_in stmts _ = None

abbrev pub texts : List ℕ → List (List ℕ)
texts ns = map (λ n. n ∷ []) ns

abbrev pub in_script : List Stmt
in_script =
    insert (codes "t") ((num 1 ∷ num 1 ∷ []) ∷ []) ∷ insert (codes "t") ((num 2 ∷ num 2 ∷ []) ∷ [])
    ∷ insert (codes "t") ((num 3 ∷ num 3 ∷ []) ∷ [])
    ∷ s.Save (codes "s") ∷ s.Rollback (Some (codes "s")) ∷ s.Rollback (Some (codes "x"))
    ∷ all_of (codes "t_Ledger") ∷ []

abbrev pub by_themselves : List Stmt
by_themselves =
    all_of (codes "t") ∷ s.Commit ∷ insert (codes "t") ((num 1 ∷ []) ∷ []) ∷ all_of (codes "u") ∷ []

-- each text each_alone, in a transaction of its own
abbrev pub each_alone : Tables → List Stmt → ℕ → List (List (List ℕ))
each_alone tables stmts n = map reply_lines (script (read_in stmts) false tables 9 ((n ∷ []) ∷ [])).replies

-- a table is made, a row is inserted, and a block is closed; a text is the number of a statement
abbrev pub in_journal : List Stmt
in_journal = create_t ∷ insert (codes "t") ((num 1 ∷ num 10 ∷ []) ∷ []) ∷ []

abbrev pub journal : ℕ → List JournalItem
journal k =
    Tx 1 (codes "a") 0 false ((0 ∷ [], codes "made" ++ 10 ∷ []) ∷ [])
    ∷ Tx 2 (codes "a") 0 false ((1 ∷ [], codes "1 rows" ++ 10 ∷ []) ∷ [])
    ∷ Close k ∷ []

-- a table with a DECIMAL(38,0) beside its key, and 38 nines
abbrev pub wide_def : TableDef
wide_def = record {
  id = 3;
  name = codes "w";
  kind = Updatable;
  gone = false;
  history = codes "h";
  view = codes "w_Ledger";
  columns = key_column (codes "id") Int ∷ column (codes "d") (Decimal 38 0) true ∷ [];
  dropped = [];
  indexes = [];
}

abbrev pub nines : ℕ
nines = 99999999999999999999999999999999999999

abbrev pub wide : ℕ → ℤ → ℕ → Version
wide id d n =
    record {
      values = typed id ∷ Some (record { ty = Decimal 38 0; value = Num 0 d }) ∷ [];
      start = (2, n);
      end = None;
    }

abbrev pub wide_tables : Tables
wide_tables =
    first_tables
    ++ record {
      def = wide_def;
      versions = wide 1 (pos 1) 0 ∷ wide 2 (pos nines) 1 ∷ wide 3 (negsuc 6) 2 ∷ [];
    } ∷ []

abbrev pub doubled_is_positive : Expr
doubled_is_positive = Bin op.Gt (Bin op.Add (Col (codes "d")) (Col (codes "d"))) (Lit (num 0))

abbrev pub wide_where : Op → Expr
wide_where o = Bin op.And (Bin o (Col (codes "id")) (Lit (num 1))) doubled_is_positive

abbrev pub wide_select : Op → Select
wide_select o = record { table = codes "w"; what = All; cond = Some (wide_where o); order = [] }

-- PRIMARY KEY (b, a) on columns a and b
abbrev pub pair_def : TableDef
pair_def = record {
  id = 3;
  name = codes "p";
  kind = Updatable;
  gone = false;
  history = codes "h";
  view = codes "p_Ledger";
  columns =
      record { name = codes "a"; ty = Int; nullable = false; key_position = 2 }
      ∷ record { name = codes "b"; ty = Int; nullable = false; key_position = 1 } ∷ [];
  dropped = [];
  indexes = [];
}

abbrev pub pairs : Tables
pairs =
    first_tables
    ++ record {
      def = pair_def;
      versions = version 1 9 (2, 0) None ∷ version 2 3 (2, 1) None ∷ version 1 3 (2, 2) None ∷ [];
    } ∷ []

-- UPDATE t SET v = v + 1 WHERE id = 5
abbrev pub update_5 : RowStmt
update_5 = Update (codes "t") ((codes "v", plus_one) ∷ []) (Some (id_is (num 5)))

abbrev pub v_is : Value → Expr
v_is v = Bin op.Eq (Col (codes "v")) (Lit v)

-- (v = 1 AND id = 5) AND v = 2
abbrev pub nested : Expr
nested = Bin op.And (Bin op.And (v_is (num 1)) (id_is (num 5))) (v_is (num 2))

-- id = 5 OR id = 6
abbrev pub one_or_other : Expr
one_or_other = Bin op.Or (id_is (num 5)) (id_is (num 6))
