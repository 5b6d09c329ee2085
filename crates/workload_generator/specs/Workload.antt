-- The statements of the generator's workload. Tables and sessions have the numbers 1 to 4, and no two
-- sessions share a table; rows count from 0.
use Rattle.std.specs.Prelude.{ℕ, zero, suc, ◌+◌, ◌*◌, ◌/◌, ◌%◌, ◌==◌, List, [], ◌∷◌, ◌++◌, map, codes, if◌then◌else◌}
use Rattle.std.specs.Fmt.{decimal}
use Rattle.format_sections.specs.RunSections.{RunSections, Section}
use Rattle.format_sections.specs.declared.kind.SectionKind.TheVariants as kind

abbrev pub tables : List ℕ
tables = 1 ∷ 2 ∷ 3 ∷ 4 ∷ []

-- what a row has in the column `v`
abbrev pub value_of : ℕ → ℕ → ℕ
value_of table row = (31 * row + table) % 1000

-- `CREATE TABLE t1 (id INT PRIMARY KEY, v BIGINT)`
abbrev pub create_text : ℕ → List ℕ
create_text table = codes "CREATE TABLE t" ++ decimal table ++ codes " (id INT PRIMARY KEY, v BIGINT)"

-- `INSERT INTO t1 VALUES (0, 1)`
abbrev pub insert_text : ℕ → ℕ → List ℕ
insert_text table row = codes "INSERT INTO t" ++ decimal table ++ codes " VALUES ("
    ++ decimal row ++ codes ", " ++ decimal (value_of table row) ++ codes ")"

-- `UPDATE t1 SET v = v + 1 WHERE id = 9`
abbrev pub update_text : ℕ → ℕ → List ℕ
update_text table row =
    codes "UPDATE t" ++ decimal table ++ codes " SET v = v + 1 WHERE id = " ++ decimal row

-- the statements on a row: each tenth row is changed once
abbrev pub row_texts : ℕ → ℕ → List (List ℕ)
row_texts table row =
    insert_text table row ∷ (if row % 10 == 9 then update_text table row ∷ [] else [])

-- the statements of the setup: each makes a table
abbrev pub setup_texts : List (List ℕ)
setup_texts = map create_text tables

-- the name of the session of a table
abbrev pub session_name : ℕ → List ℕ
session_name table = codes "s" ++ decimal table

-- the statements of the session of a table, on so many rows
unfoldable pub session_texts : ℕ → ℕ → List (List ℕ)
session_texts table zero = []
session_texts table (suc rows) = session_texts table rows ++ row_texts table rows

-- how many they are
abbrev pub statement_count : ℕ → ℕ
statement_count rows = rows + rows / 10

-- the one with this number, counted from 0: of eleven, ten insert a row each, and the last changes the tenth
unfoldable pub nth_text : ℕ → ℕ → List ℕ
nth_text table n = if n % 11 == 10 then update_text table (n / 11 * 10 + 9)
    else insert_text table (n / 11 * 10 + n % 11)

-- ---- the plan

-- the session of a table, and its statements on so many rows
abbrev pub section_of : ℕ → ℕ → Section
section_of rows table =
    record { name = session_name table; kind = kind.Session; statements = session_texts table rows }

-- the setup, and a session for each table
abbrev pub workload_sections : ℕ → RunSections
workload_sections rows = record { setup = setup_texts; sessions = map (section_of rows) tables }
