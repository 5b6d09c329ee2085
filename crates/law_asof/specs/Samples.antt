-- A small database whose one table is altered and dropped, for worked examples.
use Rattle.std.specs.Prelude.{ℕ, ◌+◌, List, [], ◌∷◌, ◌++◌, map, take, codes, None}
use Rattle.sql_value.specs.declared.column.TableKind.TheVariants.{AppendOnly}
use Rattle.sql_value.specs.declared.sql_type.SqlType.TheVariants.{Int}
use Rattle.sql_types.specs.declared.statement.Stmt.{Stmt}
use Rattle.sql_types.specs.declared.statement.Stmt.TheVariants as s
use Rattle.sql_types.specs.declared.table.TableDef.{TableDef}
use Rattle.sql_types.specs.declared.version.Table.{Table}
use Rattle.spec_model.specs.Catalog.{Tables}
use Rattle.spec_model.specs.Effect.{effect}
use Rattle.spec_model.specs.Lists.{is_among}
use Rattle.spec_model.specs.Rows.{Row, stored_row}
use Rattle.spec_model.specs.SystemTables.{changed_table_row, first_tables, tables_columns}
use Rattle.format_image.specs.Image.{user_defs}
use Rattle.format_image.specs.Rows.{filled_table, table_rows}
use Rattle.test_samples.specs.Samples.{create_t, add_to_t, drop_of_t, insert, num}
use Rattle.spec_asof.specs.DatabaseAt.{tables_at}

-- a table t (id INT PRIMARY KEY, v INT) with a row, with a column w and a row more, without v, and dropped
abbrev pub statements : List Stmt
statements =
    create_t ∷ insert (codes "t") ((num 1 ∷ num 10 ∷ []) ∷ []) ∷ add_to_t (codes "w") Int
    ∷ insert (codes "t") ((num 2 ∷ num 20 ∷ num 30 ∷ []) ∷ []) ∷ drop_of_t (codes "v") ∷ s.Drop (codes "t") ∷ []

-- each of these in a transaction of its own, the first of which has this id
abbrev pub run : ℕ → List Stmt → Tables → Tables
run id [] tables = tables
run id (stmt ∷ more) tables = run (id + 1) more (effect tables id 0 stmt).tables

-- the tables behind the first n transactions
abbrev pub behind : ℕ → Tables
behind n = run 1 (take n statements) first_tables

-- what the rows behind all six of them tell of these
abbrev pub told : ℕ → Tables
told n =
    tables_at (is_among (take n (1 ∷ 2 ∷ 3 ∷ 4 ∷ 5 ∷ 6 ∷ [])))
    (user_defs (behind 6)) (map table_rows (behind 6))

-- the tables as they were, each version with a value for each column
abbrev pub were : ℕ → Tables
were n = map filled_table (behind n)

-- ---- a kind that no statement gives

-- t as an append-only table, which has no history
abbrev pub with_other_kind : TableDef → TableDef
with_other_kind def =
    record def {
      kind = AppendOnly;
      history = [];
    }

-- a row more of the first table of the system, which the third transaction started
abbrev pub with_row : Row → Table → Table
with_row row t =
    record {
      def = t.def;
      versions = t.versions ++ record { values = stored_row tables_columns row; start = (3, 0); end = None } ∷ [];
    }

-- the tables after the first two transactions and a third, which no statement makes: its row gives t the other kind
abbrev pub with_kind_changed : Tables → Tables
with_kind_changed (first ∷ second ∷ t ∷ []) =
    with_row (changed_table_row 1 (with_other_kind t.def)) first ∷ second
    ∷ record { def = with_other_kind t.def; versions = t.versions } ∷ []
with_kind_changed tables = tables

abbrev pub changed : Tables
changed = with_kind_changed (behind 2)

-- what the rows of all three tell of the first n
abbrev pub told_of_changed : ℕ → Tables
told_of_changed n = tables_at (is_among (take n (1 ∷ 2 ∷ 3 ∷ []))) (user_defs changed) (map table_rows changed)
