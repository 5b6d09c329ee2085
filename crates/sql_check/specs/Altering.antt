-- The checks of ALTER TABLE and DROP TABLE on what a name stands for, with the new names of what is dropped.
use Rattle.std.specs.Prelude.{ℕ, ◌==◌, ◌||◌, not, true, List, suc, Ok, slice_set}
use Rattle.std.specs.Ordering.{nat_cmp}
use Rattle.sql_value.specs.declared.column.ColumnDef.{ColumnDef}
use Rattle.sql_value.specs.declared.refusal.Refusal.TheVariants.{NameConflict, KeyNotUpdatable, LimitExceeded}
use Rattle.sql_types.specs.declared.statement.Alter.{Alter}
use Rattle.sql_types.specs.declared.statement.Alter.TheVariants.{Add, DropColumn}
use Rattle.sql_types.specs.declared.table.TableDef.{TableDef}
use Rattle.spec_model.specs.Alter.{WithColumn, add_check_in, drop_column_check_in, dropped_column_name, dropped_from, with_columns}
use Rattle.spec_model.specs.Catalog.{Defs, NamedPart}
use Rattle.spec_model.specs.Checks.{refused_if}
use Rattle.spec_model.specs.Columns.{names_of}
use Rattle.spec_model.specs.Create.{is_long}
use Rattle.spec_model.specs.Lists.{has_name, inserted}
use Rattle.spec_model.specs.Refusals.{Checked, and_then}
use Rattle.sql_check.specs.NewTable.{names_repeat, names_used, names_long}

-- ---- ALTER TABLE

abbrev pub altered_name : Alter → List ℕ
altered_name (Add table column) = table
altered_name (DropColumn table column) = table

-- on what its name stands for
abbrev pub altered_in : Alter → NamedPart → Checked WithColumn
altered_in (Add table column) = add_check_in column
altered_in (DropColumn table column) = drop_column_check_in column

-- NameConflict, LimitExceeded and KeyNotUpdatable of a column that gets this name
abbrev pub drop_check : TableDef → ColumnDef → List ℕ → Checked (Unit {0})
drop_check def c new =
    refused_if (has_name (names_of def.columns) new) NameConflict
    (refused_if (is_long new) LimitExceeded
    (refused_if (not (c.key_position == 0)) KeyNotUpdatable
    (Ok tt)))

-- DROP COLUMN of the live column at this place, in a table that stands
abbrev pub dropped_live : TableDef → ℕ × ColumnDef → Checked WithColumn
dropped_live def p =
    and_then (drop_check def p.1 (dropped_column_name p.1.name (suc p.0))) (λ passed. Ok (dropped_from def p))

-- a dropped column, by its new name
abbrev pub renamed : ColumnDef → List ℕ → ColumnDef
renamed c name = record { name = name; ty = c.ty; nullable = true; key_position = c.key_position }

-- with this column, whose ordinal is among the dropped, at this place
abbrev pub with_one_dropped : TableDef → ℕ → ℕ → ColumnDef → TableDef
with_one_dropped def place ordinal c =
    with_columns (slice_set def.columns place c) (inserted nat_cmp ordinal def.dropped) def

-- ---- DROP TABLE

-- NameConflict and LimitExceeded of a table that gets these names
abbrev pub names_check : Defs → List ℕ → List ℕ → List ℕ → Checked (Unit {0})
names_check defs name history view =
    refused_if (names_repeat name history view || names_used defs name history view) NameConflict
    (refused_if (names_long name history view) LimitExceeded
    (Ok tt))

-- a dropped table, by its new names
abbrev pub gone : TableDef → List ℕ → List ℕ → List ℕ → TableDef
gone def name history view =
    record {
      id = def.id;
      name = name;
      kind = def.kind;
      gone = true;
      history = history;
      view = view;
      columns = def.columns;
      dropped = def.dropped;
      indexes = def.indexes;
    }

-- that table, where nothing is refused of its names
abbrev pub gone_as : Defs → TableDef → List ℕ → List ℕ → List ℕ → Checked TableDef
gone_as defs def name history view =
    and_then (names_check defs name history view) (λ passed. Ok (gone def name history view))
