-- What is checked of INSERT, UPDATE and DELETE before any row is looked at.
use Rattle.std.specs.Prelude.{ℕ, ◌==◌, ◌&&◌, not, nat_lt, Bool, true, false, if◌then◌else◌, List, [], map, length, Option, Some, None, is_some, Ok, Err}
use Rattle.std.specs.List.{list_any, list_all, filter_map, zip}
use Rattle.sql_value.specs.declared.value.Value.{Value}
use Rattle.sql_value.specs.declared.column.ColumnDef.{ColumnDef}
use Rattle.sql_value.specs.declared.column.TableKind.{TableKind}
use Rattle.sql_value.specs.declared.column.TableKind.TheVariants.{AppendOnly, Updatable}
use Rattle.sql_value.specs.declared.sql_type.SqlType.{SqlType}
use Rattle.sql_value.specs.declared.sql_type.SqlType.TheVariants as t
use Rattle.sql_value.specs.declared.refusal.Refusal.{Refusal}
use Rattle.sql_value.specs.declared.refusal.Refusal.TheVariants.{NoSuchTable, NameConflict, NoSuchColumn, TypeMismatch, AppendOnlyTable, ReadOnlyTable, KeyNotUpdatable, LimitExceeded, ValueCountMismatch}
use Rattle.sql_value.specs.declared.expr.Class.{Class}
use Rattle.sql_value.specs.declared.expr.Class.TheVariants.{Whole, Dec, Text, Bytes, Date, Null, Truth}
use Rattle.sql_value.specs.declared.expr.Expr.{Expr}
use Rattle.sql_value.specs.Tree.{Tree, literal, tree}
use Rattle.sql_types.specs.declared.table.TableDef.{TableDef}
use Rattle.sql_types.specs.declared.table.Part.{Part}
use Rattle.sql_types.specs.declared.table.Part.TheVariants.{Base}
use Rattle.sql_types.specs.declared.statement.RowStmt.{RowStmt}
use Rattle.sql_types.specs.declared.statement.RowStmt.TheVariants.{Insert, Update, Delete}
use Rattle.spec_model.specs.Refusals.{Checked, and_then, or_refused}
use Rattle.spec_model.specs.Columns.{column_of, place_of}
use Rattle.spec_model.specs.Classes.{class, names_columns, class_of_literal}
use Rattle.spec_model.specs.Days.{written_day}
use Rattle.spec_model.specs.Limits.{max_rows}
use Rattle.spec_model.specs.Lists.{repeats}
use Rattle.spec_model.specs.LiveColumns.{live_columns}
use Rattle.spec_model.specs.Rows.{Row}
use Rattle.spec_model.specs.Parts.{columns_of}
use Rattle.spec_model.specs.Catalog.{Defs, find_part}

-- a check that fails refuses the statement; the checks go in their order
abbrev pub refused_if : {A : Type 0} → Bool → Refusal → Checked A → Checked A
refused_if fails e rest = if fails then Err e else rest

-- ---- classes

-- a column of the type takes values of the class: NULL each, a DECIMAL all numbers, the other number types
-- those without
-- a point, and a DATE a text literal that is a date
abbrev pub accepts_class : SqlType → Class → Bool → Bool
accepts_class ty Null date = true
accepts_class t.Bit Whole date = true
accepts_class t.Int Whole date = true
accepts_class t.BigInt Whole date = true
accepts_class (t.Decimal p s) Whole date = true
accepts_class (t.Decimal p s) (Dec z) date = true
accepts_class (t.NVarChar n) Text date = true
accepts_class t.Date Text date = date
accepts_class t.Date Date date = true
accepts_class (t.VarBinary n) Bytes date = true
accepts_class _ _ date = false

abbrev pub accepts_class_of : SqlType → Tree → Checked Class → Bool
accepts_class_of ty e (Ok c) = accepts_class ty c (is_some (written_day e))
accepts_class_of ty e (Err r) = false

-- the column takes what the expression gives
abbrev pub accepts_expr : List ColumnDef → ColumnDef → Tree → Bool
accepts_expr columns c e = accepts_class_of c.ty e (class columns e)

-- a literal is a date in a text
abbrev pub is_date : Value → Bool
is_date v = is_some (written_day (literal v))

abbrev pub accepts_value : ColumnDef → Value → Bool
accepts_value c v = accepts_class c.ty (class_of_literal v) (is_date v)

abbrev pub is_truth : Checked Class → Bool
is_truth (Ok Truth) = true
is_truth _ = false

-- ---- conditions

-- the columns that a condition names are there
abbrev pub cond_names : List ColumnDef → Option Expr → Bool
cond_names columns None = true
cond_names columns (Some e) = names_columns columns (tree e)

-- a condition is a truth value
abbrev pub cond_is_truth : List ColumnDef → Option Expr → Bool
cond_is_truth columns None = true
cond_is_truth columns (Some e) = is_truth (class columns (tree e))

-- ---- columns

-- a column of this name is among these
abbrev pub is_declared : List ColumnDef → List ℕ → Bool
is_declared columns name = is_some (place_of columns name)

-- the columns to which the values of a row go: those listed, or all
abbrev pub listed : List ColumnDef → Option (List (List ℕ)) → List ColumnDef
listed columns None = columns
listed columns (Some names) = filter_map (column_of columns) names

abbrev pub names_listed : Option (List (List ℕ)) → List (List ℕ)
names_listed None = []
names_listed (Some names) = names

abbrev pub is_key_column : Option ColumnDef → Bool
is_key_column (Some c) = not (c.key_position == 0)
is_key_column None = false

-- the name is that of a column of the primary key
abbrev pub is_in_key : List ColumnDef → List ℕ → Bool
is_in_key columns name = is_key_column (column_of columns name)

abbrev pub accepts_set : List ColumnDef → Option ColumnDef → Expr → Bool
accepts_set columns None e = false
accepts_set columns (Some c) e = accepts_expr columns c (tree e)

abbrev pub is_base : Part → Bool
is_base Base = true
is_base _ = false

-- statements may change it: it is no history table, view or system table, and wasn't dropped
abbrev pub is_standing : TableDef → Part → Bool
is_standing def part = is_base part && not def.gone

abbrev pub is_append_only : TableKind → Bool
is_append_only AppendOnly = true
is_append_only Updatable = false

-- ---- the checks, in their order

-- ValueCountMismatch and TypeMismatch of an INSERT: the columns to which the values of a row go
unfoldable pub listed_check : List ColumnDef → List Row → Checked (Unit {0})
listed_check columns rows =
    refused_if (not (list_all (λ row. length row == length columns) rows)) ValueCountMismatch
    (refused_if (not (list_all (λ row. list_all (λ p. accepts_value p.0 p.1) (zip columns row)) rows)) TypeMismatch
    (Ok tt))

-- NoSuchColumn of an INSERT into a table with these live columns, and these
unfoldable pub values_check : List ColumnDef → Option (List (List ℕ)) → List Row → Checked (Unit {0})
values_check live names rows =
    refused_if (not (list_all (is_declared live) (names_listed names))) NoSuchColumn
    (listed_check (listed live names) rows)

unfoldable pub insert_check : TableDef → Part → Option (List (List ℕ)) → List Row → Checked (Unit {0})
insert_check def part names rows =
    refused_if (repeats (names_listed names)) NameConflict
    (refused_if (nat_lt max_rows (length rows)) LimitExceeded
    (refused_if (not (is_standing def part)) ReadOnlyTable
    (values_check (live_columns def) names rows)))

-- NoSuchColumn, KeyNotUpdatable and TypeMismatch of an UPDATE of a table with these live columns: all that are declared,
-- and all that expressions may name
unfoldable pub sets_check : List ColumnDef → List ColumnDef → List ColumnDef → List (List ℕ × Expr) → Option Expr
    → Checked (Unit {0})
sets_check live declared columns sets cond =
    refused_if
    (not (list_all (λ s. is_declared live s.0 && names_columns columns (tree s.1)) sets
    && cond_names columns cond)) NoSuchColumn
    (refused_if (list_any (λ s. is_in_key declared s.0) sets) KeyNotUpdatable
    (refused_if (not (list_all (λ s. accepts_set columns (column_of declared s.0) s.1) sets
    && cond_is_truth columns cond)) TypeMismatch
    (Ok tt)))

unfoldable pub update_check : TableDef → Part → List (List ℕ × Expr) → Option Expr → Checked (Unit {0})
update_check def part sets cond =
    refused_if (repeats (map (λ s. s.0) sets)) NameConflict
    (refused_if (not (is_standing def part)) ReadOnlyTable
    (refused_if (is_append_only def.kind) AppendOnlyTable
    (sets_check (live_columns def) def.columns (columns_of def Base) sets cond)))

unfoldable pub delete_check : TableDef → Part → Option Expr → Checked (Unit {0})
delete_check def part cond =
    refused_if (not (is_standing def part)) ReadOnlyTable
    (refused_if (is_append_only def.kind) AppendOnlyTable
    (refused_if (not (cond_names (columns_of def Base) cond)) NoSuchColumn
    (refused_if (not (cond_is_truth (columns_of def Base) cond)) TypeMismatch
    (Ok tt))))

-- the checks of a row statement on a table or a part of one
abbrev pub row_check : RowStmt → TableDef → Part → Checked (Unit {0})
row_check (Insert table names rows) def part = insert_check def part names rows
row_check (Update table sets cond) def part = update_check def part sets cond
row_check (Delete table cond) def part = delete_check def part cond

abbrev pub table_of : RowStmt → List ℕ
table_of (Insert table names rows) = table
table_of (Update table sets cond) = table
table_of (Delete table cond) = table

-- the definition of the table that a row statement changes, where nothing is refused before a row is looked
-- at
unfoldable pub row_statement_check : Defs → RowStmt → Checked TableDef
row_statement_check defs stmt =
    and_then (or_refused NoSuchTable (find_part defs (table_of stmt)))
    (λ n. and_then (row_check stmt n.0 n.1) (λ passed. Ok n.0))
