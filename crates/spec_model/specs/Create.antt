-- CREATE TABLE and CREATE INDEX: what is checked, and the definition that is made.
use Rattle.std.specs.Prelude.{ℕ, ◌+◌, ◌==◌, ◌&&◌, ◌||◌, not, nat_lt, nat_le, Bool, true, false, List, [], ◌∷◌, ◌++◌, map, take, flat_map, length, codes, Option, Some, None, position, Ok}
use Rattle.std.specs.List.{list_any, list_all, filter}
use Rattle.std.specs.Str.{str_eq_ignore_ascii_case}
use Rattle.std.specs.Fmt.{decimal}
use Rattle.std.specs.Str.{bytes_eq}
use Rattle.sql_value.specs.declared.column.ColumnDef.{ColumnDef}
use Rattle.sql_value.specs.declared.column.TableKind.{TableKind}
use Rattle.sql_value.specs.declared.column.TableKind.TheVariants.{AppendOnly, Updatable}
use Rattle.sql_value.specs.declared.refusal.Refusal.TheVariants.{NoSuchTable, NameConflict, NoSuchColumn, NullNotAllowed, ReadOnlyTable, LimitExceeded}
use Rattle.sql_value.specs.Stored.{is_in_range}
use Rattle.sql_types.specs.declared.table.TableDef.{TableDef}
use Rattle.sql_types.specs.declared.table.IndexDef.{IndexDef}
use Rattle.sql_types.specs.declared.statement.CreateTable.{CreateTable}
use Rattle.sql_types.specs.declared.statement.CreateIndex.{CreateIndex}
use Rattle.spec_model.specs.Refusals.{Checked, and_then, or_refused}
pub use Rattle.spec_model.specs.Columns.{names_of}
use Rattle.spec_model.specs.Columns.{place_of}
use Rattle.spec_model.specs.LiveColumns.{live_columns}
use Rattle.spec_model.specs.Limits.{max_columns, max_key_columns, max_tables, max_indexes, max_index_columns, max_name_bytes}
use Rattle.spec_model.specs.Lists.{has_name, repeats}
use Rattle.spec_model.specs.Catalog.{Defs, NamedPart, find_part}
use Rattle.spec_model.specs.Checks.{refused_if, is_standing, is_declared}

-- ---- names

abbrev pub is_name : List ℕ → Bool
is_name [] = false
is_name (b ∷ bs) = true

-- the names that a table has: its own, and those of its history and its view where it has them
abbrev pub table_names : TableDef → List (List ℕ)
table_names def = filter is_name (def.name ∷ def.history ∷ def.view ∷ [])

abbrev pub all_names : Defs → List (List ℕ)
all_names defs = flat_map table_names defs

abbrev pub written_or : List ℕ → Option (List ℕ) → List ℕ
written_or default (Some name) = name
written_or default None = default

-- an append-only table has no history
abbrev pub history_of : TableKind → ℕ → Option (List ℕ) → List ℕ
history_of AppendOnly id written = []
history_of Updatable id written = written_or (codes "MSSQL_LedgerHistoryFor_" ++ decimal id) written

abbrev pub view_of : List ℕ → Option (List ℕ) → List ℕ
view_of name written = written_or (name ++ codes "_Ledger") written

abbrev pub is_long : List ℕ → Bool
is_long name = nat_lt max_name_bytes (length name)

-- the name begins with `ledger_`, in any case
abbrev pub is_ledger_name : List ℕ → Bool
is_ledger_name name = str_eq_ignore_ascii_case (take 7 name) (codes "ledger_")

-- ---- the definition of a new table

abbrev pub ordinal_at : Option ℕ → ℕ
ordinal_at (Some place) = place + 1
ordinal_at None = 0

-- the place of a column in the primary key, from 1, or 0 outside it
abbrev pub key_position_of : List (List ℕ) → List ℕ → ℕ
key_position_of key name = ordinal_at (position (λ n. bytes_eq n name) key)

abbrev pub keyed : List (List ℕ) → ColumnDef → ColumnDef
keyed key c =
    record { name = c.name; ty = c.ty; nullable = c.nullable; key_position = key_position_of key c.name }

unfoldable pub table_def : ℕ → CreateTable → TableDef
table_def id c =
    record {
      id = id;
      name = c.name;
      kind = c.kind;
      gone = false;
      history = history_of c.kind id c.history;
      view = view_of c.name c.view;
      columns = map (keyed c.key) c.columns;
      dropped = [];
      indexes = [];
    }

-- ---- checks, in their order

-- a name is taken or given twice, or a column begins as those of the ledger do
abbrev pub has_bad_name : Defs → TableDef → List (List ℕ) → Bool
has_bad_name defs def key =
    repeats (table_names def) || list_any (has_name (all_names defs)) (table_names def)
    || repeats (names_of def.columns) || repeats key || list_any (λ c. is_ledger_name c.name) def.columns

-- tables that are there before any is made
abbrev pub system_tables : ℕ
system_tables = 2

-- a count, a type parameter or a name is out of its range
abbrev pub exceeds_limit : Defs → TableDef → List (List ℕ) → Bool
exceeds_limit defs def key =
    nat_lt max_columns (length def.columns) || nat_lt max_key_columns (length key)
    || nat_le (max_tables + system_tables) (length defs)
    || list_any (λ c. not (is_in_range c.ty)) def.columns
    || list_any is_long (table_names def) || list_any (λ c. is_long c.name) def.columns

-- a column of the primary key is declared NULL
abbrev pub has_null_key : TableDef → Bool
has_null_key def = list_any (λ c. c.nullable && not (c.key_position == 0)) def.columns

abbrev pub created_check : Defs → TableDef → List (List ℕ) → Checked TableDef
created_check defs def key =
    refused_if (has_bad_name defs def key) NameConflict
    (refused_if (exceeds_limit defs def key) LimitExceeded
    (refused_if (not (list_all (is_declared def.columns) key)) NoSuchColumn
    (refused_if (has_null_key def) NullNotAllowed
    (Ok def))))

-- the tables of users get the ids 3, 4 and so on, behind the two of the system
abbrev pub next_id : Defs → ℕ
next_id defs = length defs + 1

-- the definition of a new table, where nothing is refused
unfoldable pub create_check : Defs → CreateTable → Checked TableDef
create_check defs c = created_check defs (table_def (next_id defs) c) c.key

-- ---- indexes

abbrev pub with_index : TableDef → IndexDef → TableDef
with_index def index =
    record {
      id = def.id;
      name = def.name;
      kind = def.kind;
      gone = def.gone;
      history = def.history;
      view = def.view;
      columns = def.columns;
      dropped = def.dropped;
      indexes = def.indexes ++ index ∷ [];
    }

abbrev pub ordinals_of : List ColumnDef → List (List ℕ) → List ℕ
ordinals_of columns names = map ordinal_at (map (place_of columns) names)

abbrev pub index_def : TableDef → CreateIndex → IndexDef
index_def def c = record { name = c.name; ordinals = ordinals_of def.columns c.columns }

-- the table and the new index, where nothing is refused
abbrev pub index_check_in : CreateIndex → NamedPart → Checked (TableDef × IndexDef)
index_check_in c n =
    refused_if (has_name (map (λ i. i.name) n.0.indexes) c.name || repeats c.columns) NameConflict
    (refused_if (nat_lt max_index_columns (length c.columns) || nat_le max_indexes (length n.0.indexes)
    || is_long c.name) LimitExceeded
    (refused_if (not (is_standing n.0 n.1)) ReadOnlyTable
    (refused_if (not (list_all (is_declared (live_columns n.0)) c.columns)) NoSuchColumn
    (Ok (n.0, index_def n.0 c)))))

unfoldable pub index_check : Defs → CreateIndex → Checked (TableDef × IndexDef)
index_check defs c = and_then (or_refused NoSuchTable (find_part defs c.table)) (index_check_in c)
