-- Rows that a statement starts in a table, and the events that they are.
use Rattle.std.specs.Prelude.{ℕ, ◌+◌, ◌≤◌, ◌++◌, List, [], ◌∷◌, length, Option, None}
use Rattle.sql_value.specs.declared.column.ColumnDef.{ColumnDef}
use Rattle.sql_types.specs.declared.change.Change.{Change}
use Rattle.sql_types.specs.declared.change.Change.TheVariants.{Starts, Ends}
use Rattle.sql_types.specs.declared.event.Event.{Event}
use Rattle.sql_types.specs.declared.version.TypedValue.{TypedValue}
use Rattle.sql_types.specs.declared.version.Version.{Version}
use Rattle.spec_model.specs.Events.{start_event}
use Rattle.spec_model.specs.Limits.{max_columns}
use Rattle.spec_model.specs.Rows.{EventId}
use Rattle.law_journal.specs.Fits.{Fits}

-- a version that stands
abbrev pub new_version : EventId → List (Option TypedValue) → Version
new_version at values = record { values = values; start = at; end = None }

-- values of the columns of a table
abbrev pub FitTable : List (Option TypedValue) → Type 0
FitTable values = (columns : List ColumnDef) × (length columns ≤ max_columns) × Fits columns values

-- it starts a row of a table
abbrev pub IsRow : Change → Type 0
IsRow (Starts values) = FitTable values
IsRow (Ends start) = ⊥

-- the event that it is as a start
abbrev pub start_as : ℕ → EventId → Change → List Event
start_as table at (Starts values) = start_event table (new_version at values) ∷ []
start_as table at (Ends start) = []

-- those of changes that are numbered from seq on
abbrev pub starts_of : ℕ → ℕ → ℕ → List Change → List Event
starts_of table tx seq [] = []
starts_of table tx seq (c ∷ cs) = start_as table (tx, seq) c ++ starts_of table tx (seq + 1) cs
