-- The statements that the workload's texts are, and the tables that they make.
use Rattle.std.specs.Prelude.{ℕ, true, false, List, [], ◌∷◌, ◌++◌, codes, Some, None}
use Rattle.std.specs.Fmt.{decimal}
use Rattle.sql_value.specs.declared.column.ColumnDef.{ColumnDef}
use Rattle.sql_value.specs.declared.column.TableKind.TheVariants.{Updatable}
use Rattle.sql_value.specs.declared.expr.Op.TheVariants as op
use Rattle.sql_value.specs.declared.expr.Expr.{Expr}
use Rattle.sql_value.specs.declared.expr.Expr.TheVariants.{Lit, Col, Bin}
use Rattle.sql_value.specs.declared.sql_type.SqlType.TheVariants.{Int, BigInt}
use Rattle.sql_types.specs.declared.statement.CreateTable.{CreateTable}
use Rattle.sql_types.specs.declared.statement.RowStmt.{RowStmt}
use Rattle.sql_types.specs.declared.statement.RowStmt.TheVariants.{Insert, Update}
use Rattle.sql_types.specs.declared.statement.Stmt.{Stmt}
use Rattle.sql_types.specs.declared.statement.Stmt.TheVariants.{Create, Change}
use Rattle.spec_model.specs.Rows.{Row, number}
use Rattle.workload_generator.specs.Workload.{value_of}

abbrev pub table_name : ℕ → List ℕ
table_name table = codes "t" ++ decimal table

-- `id INT`, the key, and so never NULL
abbrev pub id_column : ColumnDef
id_column = record { name = codes "id"; ty = Int; nullable = false; key_position = 0 }

-- `v BIGINT`
abbrev pub v_column : ColumnDef
v_column = record { name = codes "v"; ty = BigInt; nullable = true; key_position = 0 }

abbrev pub new_table : ℕ → CreateTable
new_table table =
    record {
      name = table_name table;
      columns = id_column ∷ v_column ∷ [];
      key = codes "id" ∷ [];
      kind = Updatable;
      history = None;
      view = None;
    }

-- a row of a table: its number, and what stands in `v`
abbrev pub row_with : ℕ → ℕ → Row
row_with row value = number row ∷ number value ∷ []

-- the row with this number and this value, inserted
abbrev pub new_row : ℕ → ℕ → ℕ → RowStmt
new_row table row value = Insert (table_name table) None (row_with row value ∷ [])

-- v + 1
abbrev pub one_more : Expr
one_more = Bin op.Add (Col (codes "v")) (Lit (number 1))

-- id = row
abbrev pub of_row : ℕ → Expr
of_row row = Bin op.Eq (Col (codes "id")) (Lit (number row))

-- one is added to `v` in the row with this number
abbrev pub changed_row : ℕ → ℕ → RowStmt
changed_row table row = Update (table_name table) ((codes "v", one_more) ∷ []) (Some (of_row row))

abbrev pub create_statement : ℕ → Stmt
create_statement table = Create (new_table table)

abbrev pub insert_statement : ℕ → ℕ → Stmt
insert_statement table row = Change (new_row table row (value_of table row))

abbrev pub update_statement : ℕ → ℕ → Stmt
update_statement table row = Change (changed_row table row)
