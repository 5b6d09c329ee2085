-- What the workload's statements do to all tables.
use Rattle.std.proofs.Common.{◌≡◌, ◌∙◌, ◌≤◌, ℕ, false, List, [], ◌∷◌, Some, Ok, refl, ap}
use Rattle.std.specs.Fmt.{digits}
use Rattle.sql_types.specs.declared.statement.RowStmt.{RowStmt}
use Rattle.sql_types.specs.declared.statement.Stmt.TheVariants.{Change}
use Rattle.sql_types.specs.declared.version.Table.{Table}
use Rattle.sql_types.specs.declared.version.Version.{Version}
use Rattle.spec_model.specs.Catalog.{Defs, Tables, find_part, versions_of}
use Rattle.spec_model.specs.Changes.{Changes, changed_all, row_changes}
use Rattle.spec_model.specs.Checks.{row_statement_check, insert_check, values_check, listed_check, update_check, sets_check}
use Rattle.spec_model.specs.Create.{create_check, table_def}
use Rattle.spec_model.specs.Effect.{effect, row_effect, done, table_start, column_starts}
use Rattle.spec_model.specs.Script.{Reading, by_statement, start, script, script_from, text_step}
use Rattle.spec_model.specs.SystemTables.{tables_def, columns_def, column_rows}
use Rattle.sql_value.specs.Stored.{is_in_range}
use Rattle.law_workload.specs.Statements.{new_row, changed_row, create_statement}
use Rattle.law_workload.specs.Tables.{def_of, id_of}
use Rattle.law_workload.proofs.FourTables.{by_table}
use Rattle.law_workload.proofs.Updates.{tree_of_row, tree_of_more}

abbrev table_with : ℕ → List Version → Table
table_with table versions = record { def = def_of table; versions = versions }

abbrev system_with : List Version → List Version → Tables
system_with s c = record { def = tables_def; versions = s } ∷ record { def = columns_def; versions = c } ∷ []

-- all tables, with these versions
abbrev pub tables_of : List Version → List Version → List Version → List Version → List Version → List Version → Tables
tables_of s c v w x y =
    record { def = tables_def; versions = s } ∷ record { def = columns_def; versions = c }
    ∷ table_with 1 v ∷ table_with 2 w ∷ table_with 3 x ∷ table_with 4 y ∷ []

-- the versions of one of the workload's tables
abbrev pub versions_in : Tables → ℕ → List Version
versions_in T table = versions_of T (id_of table)

abbrev pub all_defs : Defs
all_defs = tables_def ∷ columns_def ∷ def_of 1 ∷ def_of 2 ∷ def_of 3 ∷ def_of 4 ∷ []

-- ---- the statements pass

pub insert_passes : (table : ℕ) → 1 ≤ table → table ≤ 4 → (row value : ℕ) → row_statement_check all_defs (new_row table row value) ≡ Ok (def_of table)
unfolding digits row_statement_check find_part insert_check values_check listed_check table_def
insert_passes =
    by_table (λ table. (row value : ℕ) → row_statement_check all_defs (new_row table row value) ≡ Ok (def_of table))
    (λ row value. refl) (λ row value. refl) (λ row value. refl) (λ row value. refl)

pub update_passes : (table : ℕ) → 1 ≤ table → table ≤ 4 → (row : ℕ) → row_statement_check all_defs (changed_row table row) ≡ Ok (def_of table)
unfolding digits row_statement_check find_part update_check sets_check table_def is_in_range
update_passes =
    by_table (λ table. (row : ℕ) → row_statement_check all_defs (changed_row table row) ≡ Ok (def_of table))
    (λ row. rw (tree_of_more, tree_of_row row) refl) (λ row. rw (tree_of_more, tree_of_row row) refl)
    (λ row. rw (tree_of_more, tree_of_row row) refl) (λ row. rw (tree_of_more, tree_of_row row) refl)

-- ---- one table changes

module _ (s c v w x y : List Version) (tx : ℕ) (stmt : RowStmt) (made : Changes) where
  abbrev T : Tables
  T = tables_of s c v w x y

  pub effect_1 : row_statement_check all_defs stmt ≡ Ok (def_of 1) → row_changes (def_of 1) v stmt ≡ Ok made → (effect T tx 0 (Change stmt)).tables ≡ tables_of s c (changed_all tx 0 made.0 v) w x y
  unfolding effect table_def
  effect_1 passes is = ap (λ r. (row_effect T tx 0 stmt r).tables) passes ∙ ap (λ m. (done T tx 0 3 m).tables) is

  pub effect_2 : row_statement_check all_defs stmt ≡ Ok (def_of 2) → row_changes (def_of 2) w stmt ≡ Ok made → (effect T tx 0 (Change stmt)).tables ≡ tables_of s c v (changed_all tx 0 made.0 w) x y
  unfolding effect table_def
  effect_2 passes is = ap (λ r. (row_effect T tx 0 stmt r).tables) passes ∙ ap (λ m. (done T tx 0 4 m).tables) is

  pub effect_3 : row_statement_check all_defs stmt ≡ Ok (def_of 3) → row_changes (def_of 3) x stmt ≡ Ok made → (effect T tx 0 (Change stmt)).tables ≡ tables_of s c v w (changed_all tx 0 made.0 x) y
  unfolding effect table_def
  effect_3 passes is = ap (λ r. (row_effect T tx 0 stmt r).tables) passes ∙ ap (λ m. (done T tx 0 5 m).tables) is

  pub effect_4 : row_statement_check all_defs stmt ≡ Ok (def_of 4) → row_changes (def_of 4) y stmt ≡ Ok made → (effect T tx 0 (Change stmt)).tables ≡ tables_of s c v w x (changed_all tx 0 made.0 y)
  unfolding effect table_def
  effect_4 passes is = ap (λ r. (row_effect T tx 0 stmt r).tables) passes ∙ ap (λ m. (done T tx 0 6 m).tables) is

-- ---- a statement alone

module _ (reads : Reading) where
  pub change_alone : (T : Tables) (tx : ℕ) (text : List ℕ) (stmt : RowStmt) → reads text ≡ Some (Change stmt) → (script reads false T tx (text ∷ [])).state.tables ≡ (effect T tx 0 (Change stmt)).tables
  unfolding script_from text_step
  change_alone T tx text stmt is = ap (λ o. (by_statement false tx (start T) o).0.tables) is

  pub create_alone : (T : Tables) (tx : ℕ) (text : List ℕ) (table : ℕ) → reads text ≡ Some (create_statement table) → (script reads false T tx (text ∷ [])).state.tables ≡ (effect T tx 0 (create_statement table)).tables
  unfolding script_from text_step
  create_alone T tx text table is = ap (λ o. (by_statement false tx (start T) o).0.tables) is

-- ---- the tables are made

abbrev pub none_made : List Version → List Version → Tables
none_made s c = system_with s c

abbrev pub one_made : List Version → List Version → Tables
one_made s c = record { def = tables_def; versions = s } ∷ record { def = columns_def; versions = c } ∷ table_with 1 [] ∷ []

abbrev pub two_made : List Version → List Version → Tables
two_made s c = record { def = tables_def; versions = s } ∷ record { def = columns_def; versions = c } ∷ table_with 1 [] ∷ table_with 2 [] ∷ []

abbrev pub three_made : List Version → List Version → Tables
three_made s c = record { def = tables_def; versions = s } ∷ record { def = columns_def; versions = c } ∷ table_with 1 [] ∷ table_with 2 [] ∷ table_with 3 [] ∷ []

abbrev pub rows_of_table : ℕ → ℕ → List Version → List Version
rows_of_table tx table s = changed_all tx 0 (table_start (def_of table)) s

abbrev pub rows_of_columns : ℕ → ℕ → List Version → List Version
rows_of_columns tx table c = changed_all tx 1 (column_starts (column_rows (def_of table))) c

pub effect_create_1 : (s c : List Version) (tx : ℕ) → (effect (none_made s c) tx 0 (create_statement 1)).tables ≡ one_made (rows_of_table tx 1 s) (rows_of_columns tx 1 c)
unfolding digits effect create_check table_def is_in_range
effect_create_1 s c tx = refl

pub effect_create_2 : (s c : List Version) (tx : ℕ) → (effect (one_made s c) tx 0 (create_statement 2)).tables ≡ two_made (rows_of_table tx 2 s) (rows_of_columns tx 2 c)
unfolding digits effect create_check table_def is_in_range
effect_create_2 s c tx = refl

pub effect_create_3 : (s c : List Version) (tx : ℕ) → (effect (two_made s c) tx 0 (create_statement 3)).tables ≡ three_made (rows_of_table tx 3 s) (rows_of_columns tx 3 c)
unfolding digits effect create_check table_def is_in_range
effect_create_3 s c tx = refl

pub effect_create_4 : (s c : List Version) (tx : ℕ) → (effect (three_made s c) tx 0 (create_statement 4)).tables ≡ tables_of (rows_of_table tx 4 s) (rows_of_columns tx 4 c) [] [] [] []
unfolding digits effect create_check table_def is_in_range
effect_create_4 s c tx = refl
