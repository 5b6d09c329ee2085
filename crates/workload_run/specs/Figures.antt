-- What is counted of an image.
use Rattle.std.specs.Prelude.{ℕ, List, map, sum, length, drop}
use Rattle.sql_types.specs.declared.image.Image.{Image}
use Rattle.sql_types.specs.declared.image.TableRows.{TableRows}
use Rattle.spec_model.specs.Create.{system_tables}
use Rattle.law_workload.specs.Tables.{total}

-- the rows of the tables of users, which stand behind those of the system
abbrev pub user_tables : Image → List TableRows
user_tables image = drop system_tables image.tables

-- how many rows stand in some tables
abbrev pub row_count : List TableRows → ℕ
row_count tables = sum (map (λ t. length t.base) tables)

-- how many versions of them have ended
abbrev pub history_count : List TableRows → ℕ
history_count tables = sum (map (λ t. length t.history) tables)

-- the sum of what the rows have in their second column
abbrev pub amount : List TableRows → ℕ
amount tables = sum (map (λ t. total t.base) tables)
