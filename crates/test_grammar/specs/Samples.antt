-- The statements of the worked examples.
use Rattle.std.specs.Prelude.{neg_ℤ, pos, true, false, [], ◌∷◌, codes, Some, None}
use Rattle.sql_value.specs.declared.value.Value.TheVariants as value
use Rattle.sql_value.specs.declared.expr.Op.TheVariants as op
use Rattle.sql_value.specs.declared.expr.Expr.{Expr}
use Rattle.sql_value.specs.declared.expr.Expr.TheVariants.{Col, Not, IsNull, Bin}
use Rattle.sql_value.specs.declared.sql_type.SqlType.TheVariants as sql
use Rattle.sql_value.specs.declared.column.TableKind.TheVariants.{AppendOnly}
use Rattle.sql_types.specs.declared.statement.Alter.TheVariants.{Add, DropColumn}
use Rattle.sql_types.specs.declared.statement.CreateTable.{CreateTable}
use Rattle.sql_types.specs.declared.statement.RowStmt.TheVariants.{Insert, Delete}
use Rattle.sql_types.specs.declared.statement.Stmt.{Stmt}
use Rattle.sql_types.specs.declared.statement.Stmt.TheVariants as stmt

-- DELETE FROM t
abbrev pub delete_all : Stmt
delete_all = stmt.Change (Delete (codes "t") None)

-- a OR (b AND (NOT c))
abbrev pub any_of : Expr
any_of = Bin op.Or (Col (codes "a")) (Bin op.And (Col (codes "b")) (Not (Col (codes "c"))))

-- ((a - b) - c) IS NULL
abbrev pub no_rest : Expr
no_rest = IsNull (Bin op.Sub (Bin op.Sub (Col (codes "a")) (Col (codes "b"))) (Col (codes "c"))) false

-- DELETE FROM t with this condition
abbrev pub delete_where : Expr → Stmt
delete_where x = stmt.Change (Delete (codes "t") (Some x))

-- one row of -5 and NULL
abbrev pub insert_row : Stmt
insert_row = stmt.Change (Insert (codes "t") None ((value.Num 0 (neg_ℤ (pos 5)) ∷ value.Null ∷ []) ∷ []))

-- an append-only table of one column, which is the key and so may not be NULL
abbrev pub ledger_table : CreateTable
ledger_table = record {
  name = codes "t";
  columns = record { name = codes "a"; ty = sql.Int; nullable = false; key_position = 0 } ∷ [];
  key = codes "a" ∷ [];
  kind = AppendOnly;
  history = None;
  view = None;
}

abbrev pub create_ledger : Stmt
create_ledger = stmt.Create ledger_table

abbrev pub back_to_s : Stmt
back_to_s = stmt.Rollback (Some (codes "s"))

-- a column that may be NULL
abbrev pub add_w : Stmt
add_w =
    stmt.Alter (Add (codes "t") (record {
      name = codes "w";
      ty = sql.NVarChar 5;
      nullable = true;
      key_position = 0;
    }))

abbrev pub drop_v : Stmt
drop_v = stmt.Alter (DropColumn (codes "t") (codes "v"))

abbrev pub drop_t : Stmt
drop_t = stmt.Drop (codes "t")
