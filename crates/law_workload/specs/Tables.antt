-- The tables of the workload, and what stands in them.
use Rattle.std.specs.Prelude.{◌≡◌, ℕ, pos, ◌+◌, List, ◌∷◌, map, length, sum, is_some}
use Rattle.std.specs.List.{filter}
use Rattle.sql_value.specs.declared.value.Value.{Value}
use Rattle.sql_value.specs.declared.value.Value.TheVariants.{Num}
use Rattle.sql_types.specs.declared.table.TableDef.{TableDef}
use Rattle.sql_types.specs.declared.version.Version.{Version}
use Rattle.spec_model.specs.Catalog.{Tables, versions_of}
use Rattle.spec_model.specs.Create.{table_def}
use Rattle.spec_model.specs.Rows.{Row, live, values_of}
use Rattle.law_workload.specs.Statements.{new_table}

-- the tables of the system have the ids 1 and 2, and those of the workload come behind them
abbrev pub id_of : ℕ → ℕ
id_of table = table + 2

abbrev pub def_of : ℕ → TableDef
def_of table = table_def (id_of table) (new_table table)

-- ---- what stands in a table

-- the versions that ended
abbrev pub history : List Version → List Version
history versions = filter (λ v. is_some v.end) versions

abbrev pub number_in : Value → ℕ
number_in (Num scale (pos n)) = n
number_in _ = 0

-- what a row has in `v`, which is the second column
abbrev pub second : Row → ℕ
second (id ∷ v ∷ row) = number_in v
second _ = 0

abbrev pub total : List Version → ℕ
total versions = sum (map (λ v. second (values_of v)) versions)

-- so many rows and rows of the history, and the sum of `v` in the rows
pub record Shows (tables : Tables) (table : ℕ) (rows changed amount : ℕ) : Type 0 where
  pub rows_are : length (live (versions_of tables (id_of table))) ≡ rows
  pub history_is : length (history (versions_of tables (id_of table))) ≡ changed
  pub sum_is : total (live (versions_of tables (id_of table))) ≡ amount
