-- What a statement does to the rows of a table: the list of its starts and ends, without the transaction or
-- its numbers.
use Rattle.std.specs.Prelude.{ℕ, ◌+◌, ◌||◌, Bool, if◌then◌else◌, List, [], ◌∷◌, ◌++◌, map, flat_map, length, Option, Some, None, Ok, Err}
use Rattle.std.specs.List.{list_any, zip}
use Rattle.std.specs.Str.{bytes_eq}
use Rattle.sql_value.specs.declared.value.Value.{Value}
use Rattle.sql_value.specs.declared.value.Value.TheVariants.{Null}
use Rattle.sql_value.specs.declared.column.ColumnDef.{ColumnDef}
use Rattle.sql_value.specs.declared.refusal.Refusal.TheVariants.{TypeMismatch, NullNotAllowed, DuplicateKey}
use Rattle.sql_value.specs.declared.expr.Expr.{Expr}
use Rattle.sql_value.specs.Conversion.{Converted, conversion_of}
use Rattle.sql_value.specs.Refusal.{refusal_of}
use Rattle.sql_types.specs.declared.outcome.Outcome.{Outcome}
use Rattle.sql_types.specs.declared.outcome.Outcome.TheVariants as out
pub use Rattle.sql_types.specs.declared.change.Change.{Change}
pub use Rattle.sql_types.specs.declared.change.Change.TheVariants.{Starts, Ends}
use Rattle.sql_types.specs.declared.version.Version.{Version}
use Rattle.sql_types.specs.declared.statement.RowStmt.{RowStmt}
use Rattle.sql_types.specs.declared.statement.RowStmt.TheVariants.{Insert, Update, Delete}
use Rattle.sql_types.specs.declared.table.TableDef.{TableDef}
use Rattle.spec_model.specs.Refusals.{Checked, and_then}
use Rattle.spec_model.specs.Columns.{names_of}
use Rattle.spec_model.specs.LiveColumns.{live_columns}
use Rattle.spec_model.specs.Evaluation.{meaning_of}
use Rattle.spec_model.specs.Lists.{checked_map, checked_filter, checked_fold}
use Rattle.spec_model.specs.Rows.{Row, EventId, stored_row, row_of, started, ended}
use Rattle.spec_model.specs.Keys.{Key, key_of, same_key, has_live_row, live_by_key}
use Rattle.spec_model.specs.Parts.{start_columns, base_row}
use Rattle.spec_model.specs.Where.{holds, key_fixed}

-- ---- starts and ends

-- a change, as this event
abbrev pub changed : EventId → Change → List Version → List Version
changed at (Starts values) versions = started at values versions
changed at (Ends start) versions = ended at start versions

-- changes one after another, numbered from seq
unfoldable pub changed_all : ℕ → ℕ → List Change → List Version → List Version
changed_all tx seq [] versions = versions
changed_all tx seq (c ∷ cs) versions = changed_all tx (seq + 1) cs (changed (tx, seq) c versions)

-- ---- a value, and a row, as the columns keep them

abbrev pub or_its_refusal : Converted → Checked Value
or_its_refusal (Ok v) = Ok v
or_its_refusal (Err e) = Err (refusal_of e)

-- NULL where the column may be NULL, and else what the column makes of the value
unfoldable pub kept : ColumnDef → Value → Checked Value
kept c Null = if c.nullable then Ok Null else Err NullNotAllowed
kept c v = or_its_refusal (conversion_of v c.ty)

-- column by column
unfoldable pub kept_row : List ColumnDef → Row → Checked Row
kept_row columns row = checked_map (λ p. kept p.0 p.1) (zip columns row)

-- ---- INSERT

-- the columns to which the values of a row go, by name: those listed, or the live ones. Without a list and where none was
-- dropped they go to all.
abbrev pub names_for : List ℕ → TableDef → Option (List (List ℕ)) → Option (List (List ℕ))
names_for [] def names = names
names_for (n ∷ ns) def (Some names) = Some names
names_for (n ∷ ns) def None = Some (names_of (live_columns def))

abbrev pub written_names : TableDef → Option (List (List ℕ)) → Option (List (List ℕ))
written_names def names = names_for def.dropped def names

-- what a row of VALUES gives the column of this name
abbrev pub value_named : List (List ℕ × Value) → List ℕ → Value
value_named [] name = Null
value_named (p ∷ ps) name = if bytes_eq p.0 name then p.1 else value_named ps name

-- the values in the order of the table's columns; NULL where a column isn't among those named
unfoldable pub arranged : List ColumnDef → Option (List (List ℕ)) → Row → Row
arranged columns None values = values
arranged columns (Some names) values = map (λ c. value_named (zip names values) c.name) columns

module _ (columns : List ColumnDef) (versions : List Version) where
  -- a row of this key stands, or is among those inserted before
  unfoldable pub is_duplicate : List Row → Key → Bool
  is_duplicate before key =
      has_live_row columns key versions || list_any (λ row. same_key (key_of columns row) key) before

  abbrev pub one_more : List Row → Row → Checked (List Row)
  one_more before row = if is_duplicate before (key_of columns row) then Err DuplicateKey else Ok (before ++ row ∷ [])

  -- the rows of VALUES as they are kept, in written order, each after those before it
  unfoldable pub inserted_rows : Option (List (List ℕ)) → List Row → Checked (List Row)
  inserted_rows names rows =
      checked_fold
      (λ before row. and_then (kept_row columns (arranged columns names row)) (one_more before)) [] rows

-- ---- UPDATE and DELETE

-- the versions that a condition takes, in key order
unfoldable pub versions_matched : List ColumnDef → Option Expr → List Version → Checked (List Version)
versions_matched columns cond versions =
    checked_filter (λ v. holds (columns ++ start_columns) cond (base_row columns v))
    (live_by_key columns (key_fixed columns cond) versions)

abbrev pub expr_set : List (List ℕ × Expr) → List ℕ → Option Expr
expr_set [] name = None
expr_set (s ∷ ss) name = if bytes_eq s.0 name then Some s.1 else expr_set ss name

abbrev pub as_value : Outcome → Checked Value
as_value (out.Value v) = Ok v
as_value (out.Truth t) = Err TypeMismatch

-- a column's value after SET, over the row before; a column that isn't named keeps its value
abbrev pub value_set : List ColumnDef → Row → ColumnDef → Value → Option Expr → Checked Value
value_set columns row c v None = Ok v
value_set columns row c v (Some e) =
    and_then (meaning_of (columns ++ start_columns) row e) (λ o. and_then (as_value o) (kept c))

-- a version's row after SET, column by column
unfoldable pub row_after_set : List ColumnDef → List (List ℕ × Expr) → Version → Checked Row
row_after_set columns sets v =
    checked_map (λ p. value_set columns (base_row columns v) p.0 p.1 (expr_set sets p.0.name))
    (zip columns (row_of columns v))

abbrev pub replaced : List ColumnDef → Version → Row → List Change
replaced columns v row = Ends v.start ∷ Starts (stored_row columns row) ∷ []

-- ---- the whole statement

abbrev pub Changes : Type 0
Changes = List Change × ℕ

-- one start for each row
abbrev pub insertion : List ColumnDef → List Row → Changes
insertion columns rows = (map (λ row. Starts (stored_row columns row)) rows, length rows)

-- each version's end, and then the start of what takes its place
abbrev pub replacement : List ColumnDef → List (Version × Row) → Changes
replacement columns pairs = (flat_map (λ p. replaced columns p.0 p.1) pairs, length pairs)

-- each version's end
abbrev pub deletion : List Version → Changes
deletion versions = (map (λ v. Ends v.start) versions, length versions)

-- the changes that a row statement makes to the versions of its table, and the number of rows that it replies
unfoldable pub row_changes : TableDef → List Version → RowStmt → Checked Changes
row_changes def versions (Insert table names rows) =
    and_then (inserted_rows def.columns versions (written_names def names) rows)
    (λ kept. Ok (insertion def.columns kept))
row_changes def versions (Update table sets cond) =
    and_then (versions_matched def.columns cond versions) (λ taken.
    and_then (checked_map (row_after_set def.columns sets) taken)
    (λ rows. Ok (replacement def.columns (zip taken rows))))
row_changes def versions (Delete table cond) =
    and_then (versions_matched def.columns cond versions) (λ taken. Ok (deletion taken))
