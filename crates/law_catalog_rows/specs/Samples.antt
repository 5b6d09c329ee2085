-- Small definitions, for worked examples.
use Rattle.std.specs.Prelude.{ℕ, ℤ, negsuc, ◌+◌, Bool, true, false, List, [], ◌∷◌, set, codes, Some, None}
use Rattle.sql_value.specs.declared.value.Value.TheVariants.{Num}
use Rattle.sql_value.specs.declared.column.ColumnDef.{ColumnDef}
use Rattle.sql_value.specs.declared.column.TableKind.TheVariants.{Updatable}
use Rattle.sql_value.specs.declared.sql_type.SqlType.TheVariants.{Int, Decimal}
use Rattle.sql_types.specs.declared.statement.CreateTable.{CreateTable}
use Rattle.sql_types.specs.declared.table.TableDef.{TableDef}
use Rattle.spec_model.specs.Rows.{Row, number}
use Rattle.spec_model.specs.SystemTables.{a_column}
use Rattle.spec_model.specs.Create.{table_def, with_index}
use Rattle.law_catalog_rows.specs.Encoded.{column_row_at}

-- a table with a history, whose key is the column `id`
abbrev pub create : List ℕ → List ℕ → List ColumnDef → CreateTable
create name history columns =
    record {
      name = name;
      columns = columns;
      key = codes "id" ∷ [];
      kind = Updatable;
      history = Some history;
      view = None;
    }

-- id INT, which may be NULL or not, and a DECIMAL(10,2) of this name
abbrev pub two_columns : Bool → List ℕ → List ColumnDef
two_columns nullable name =
    a_column (codes "id") Int nullable 0 ∷ a_column name (Decimal 10 2) true 0 ∷ []

-- with an index on v, and one on v and id
abbrev pub def_3 : TableDef
def_3 =
    with_index
    (with_index (table_def 3 (create (codes "a b") (codes "h") (two_columns false (codes "v"))))
    (record { name = codes "i"; ordinals = 2 ∷ [] }))
    (record { name = codes "j"; ordinals = 2 ∷ 1 ∷ [] })

-- without an index
abbrev pub def_4 : List ℕ → TableDef
def_4 name = table_def 4 (create name (codes "g") (two_columns false (codes "v")))

-- a definition that breaks rules, of this id and these columns
abbrev pub odd_def : ℕ → List ColumnDef → TableDef
odd_def id columns = table_def id (create (codes "t") (codes "h") columns)

-- a row that has no more than the id of a table
abbrev pub stray : ℤ → Row
stray id = Num 0 id ∷ []

-- ---- changes

-- the row as a later change wrote it, where the thing is named at k
abbrev pub with_change : ℕ → ℕ → Row → Row
with_change k n row = set row (k + 1) (number n)

-- the table as it is left when it is dropped, and when its second column is
abbrev pub gone_4 : TableDef
gone_4 = record (def_4 (codes "t")) { gone = true }

abbrev pub less_4 : TableDef
less_4 = record (def_4 (codes "t")) { dropped = 2 ∷ [] }

-- the row of its second column with this change, and with the key position of a column that was dropped
abbrev pub less_row : ℕ → Row
less_row change =
    with_change 1 change (column_row_at 4 (2, a_column (codes "v") (Decimal 10 2) true 0) (negsuc 0))
