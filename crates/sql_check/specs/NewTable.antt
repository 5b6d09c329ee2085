-- The checks of a new table, over what is written of it and its three names.
use Rattle.std.specs.Prelude.{ℕ, ◌+◌, ◌&&◌, ◌||◌, not, nat_lt, nat_le, Bool, is_some, List, length, Ok}
use Rattle.std.specs.List.{list_all, list_any}
use Rattle.sql_value.specs.declared.column.ColumnDef.{ColumnDef}
use Rattle.sql_value.specs.Stored.{is_in_range}
use Rattle.sql_types.specs.declared.statement.CreateTable.{CreateTable}
use Rattle.sql_value.specs.declared.refusal.Refusal.TheVariants.{NameConflict, NoSuchColumn, NullNotAllowed, LimitExceeded}
use Rattle.spec_model.specs.Refusals.{Checked}
use Rattle.spec_model.specs.Checks.{refused_if, is_declared}
use Rattle.spec_model.specs.Limits.{max_columns, max_key_columns, max_tables}
use Rattle.spec_model.specs.Lists.{has_name, repeats}
use Rattle.spec_model.specs.Catalog.{Defs, find_part, is_named}
use Rattle.spec_model.specs.Create.{names_of, is_long, is_ledger_name, system_tables}

-- the name stands for something
abbrev pub is_used : Defs → List ℕ → Bool
is_used defs name = is_some (find_part defs name)

-- two of the names are one
unfoldable pub names_repeat : List ℕ → List ℕ → List ℕ → Bool
names_repeat name history view = is_named history name || is_named view name || is_named view history

-- one of the names stands for something
unfoldable pub names_used : Defs → List ℕ → List ℕ → List ℕ → Bool
names_used defs name history view = is_used defs name || is_used defs history || is_used defs view

unfoldable pub names_long : List ℕ → List ℕ → List ℕ → Bool
names_long name history view = is_long name || is_long history || is_long view

-- a name of a column or of the key stands twice, or is one that the ledger adds
unfoldable pub columns_bad : List ColumnDef → List (List ℕ) → Bool
columns_bad columns key =
    repeats (names_of columns) || repeats key || list_any (λ c. is_ledger_name c.name) columns

-- too many columns, key columns or tables, or a type outside its range
unfoldable pub counts_over : Defs → List ColumnDef → List (List ℕ) → Bool
counts_over defs columns key =
    nat_lt max_columns (length columns) || nat_lt max_key_columns (length key)
    || nat_le (max_tables + system_tables) (length defs)
    || list_any (λ c. not (is_in_range c.ty)) columns

unfoldable pub columns_long : List ColumnDef → Bool
columns_long columns = list_any (λ c. is_long c.name) columns

-- a column of the key is declared NULL
unfoldable pub key_null : List ColumnDef → List (List ℕ) → Bool
key_null columns key = list_any (λ c. c.nullable && has_name key c.name) columns

-- NameConflict, LimitExceeded, NoSuchColumn and NullNotAllowed of a new table with this history and view
unfoldable pub new_check : Defs → CreateTable → List ℕ → List ℕ → Checked (Unit {0})
new_check defs c history view =
    refused_if
    ((names_repeat c.name history view || names_used defs c.name history view)
    || columns_bad c.columns c.key) NameConflict
    (refused_if
    ((counts_over defs c.columns c.key || names_long c.name history view) || columns_long c.columns) LimitExceeded
    (refused_if (not (list_all (is_declared c.columns) c.key)) NoSuchColumn
    (refused_if (key_null c.columns c.key) NullNotAllowed
    (Ok tt))))
