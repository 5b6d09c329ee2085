-- What the grammar leaves of statements and so of definitions: each name has bytes, which may stand in names,
-- and no list of columns is empty.
use Rattle.std.specs.Prelude.{ℕ, ◌≡◌, ◌≤◌, ◌<◌, ◌==◌, not, true, List, length, Option, Some, None}
use Rattle.std.specs.List.{AllByRecursion, list_all, list_any}
use Rattle.sql_value.specs.declared.column.TableKind.{TableKind}
use Rattle.sql_value.specs.declared.column.TableKind.TheVariants.{AppendOnly, Updatable}
use Rattle.sql_types.specs.declared.statement.Alter.{Alter}
use Rattle.sql_types.specs.declared.statement.Alter.TheVariants.{Add, DropColumn}
use Rattle.sql_types.specs.declared.statement.CreateIndex.{CreateIndex}
use Rattle.sql_types.specs.declared.statement.CreateTable.{CreateTable}
use Rattle.sql_types.specs.declared.statement.Stmt.{Stmt}
use Rattle.sql_types.specs.declared.statement.Stmt.TheVariants as s
use Rattle.sql_types.specs.declared.table.TableDef.{TableDef}
use Rattle.spec_model.specs.Catalog.{Defs}
use Rattle.spec_model.specs.Script.{Reading}
use Rattle.law_catalog_rows.specs.IsEncodableDef.{is_name_byte}

abbrev pub IsWritten : List ℕ → Type 0
IsWritten name = (1 ≤ length name) × (list_all is_name_byte name ≡ true)

-- ---- statements

-- where a name is written
abbrev pub IfWritten : Option (List ℕ) → Type 0
IfWritten None = Unit {0}
IfWritten (Some name) = IsWritten name

pub record TableWritten (c : CreateTable) : Type 0 where
  pub name : IsWritten c.name
  pub some_columns : 1 ≤ length c.columns
  pub columns : AllByRecursion (λ d. IsWritten d.name) c.columns
  pub some_key : 1 ≤ length c.key
  pub history : IfWritten c.history
  pub view : IfWritten c.view

pub record IndexWritten (c : CreateIndex) : Type 0 where
  pub name : IsWritten c.name
  pub some_columns : 1 ≤ length c.columns

-- what is dropped gets a name that is made of the one that it has
abbrev pub AlterWritten : Alter → Type 0
AlterWritten (Add table column) = IsWritten column.name
AlterWritten (DropColumn table column) = Unit {0}

abbrev pub StatementWritten : Stmt → Type 0
StatementWritten (s.Create c) = TableWritten c
StatementWritten (s.Index c) = IndexWritten c
StatementWritten (s.Alter a) = AlterWritten a
StatementWritten _ = Unit {0}

-- each statement that it reads is such
abbrev pub ReadsWritten : Reading → Type 0
ReadsWritten reads = (text : List ℕ) (stmt : Stmt) → reads text ≡ Some stmt → StatementWritten stmt

-- ---- definitions

abbrev pub HistoryWritten : TableKind → List ℕ → Type 0
HistoryWritten AppendOnly name = Unit {0}
HistoryWritten Updatable name = IsWritten name

pub record Written (def : TableDef) : Type 0 where
  pub name : IsWritten def.name
  pub history : HistoryWritten def.kind def.history
  pub view : IsWritten def.view
  pub some_columns : 1 ≤ length def.columns
  pub columns : AllByRecursion (λ c. IsWritten c.name) def.columns
  pub some_key : list_any (λ c. not (c.key_position == 0)) def.columns ≡ true
  pub indexes : AllByRecursion (λ i. IsWritten i.name × (1 ≤ length i.ordinals)) def.indexes

-- each definition of a user's table
abbrev pub AllWritten : Defs → Type 0
AllWritten defs = AllByRecursion (λ (def : TableDef). 2 < def.id → Written def) defs
