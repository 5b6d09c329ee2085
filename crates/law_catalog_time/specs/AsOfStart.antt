-- Versions respect the columns of their tables as these were when the versions started, by the rows of the table
-- of columns.
use Rattle.std.specs.Prelude.{ℕ, pos, ◌+◌, ◌≡◌, ◌<◌, List, [], ◌∷◌, Option, Some, None}
use Rattle.std.specs.List.{AllByRecursion}
use Rattle.sql_value.specs.declared.value.Value.{Value}
use Rattle.sql_value.specs.declared.value.Value.TheVariants.{Num}
use Rattle.sql_types.specs.declared.version.Table.{Table}
use Rattle.sql_types.specs.declared.version.TypedValue.{TypedValue}
use Rattle.sql_types.specs.declared.version.Version.{Version}
use Rattle.spec_model.specs.Rows.{Row, EventId, values_of, filled_stored}
use Rattle.spec_model.specs.Keys.{value_at}
use Rattle.spec_model.specs.Catalog.{Tables, versions_of}
use Rattle.spec_model.specs.SystemTables.{columns_id}
use Rattle.spec_history.specs.Lists.{Some_of}
use Rattle.law_journal.specs.Kept.{IsEarlier}

-- ---- rows of the table of columns

-- the value is this number
abbrev pub IsNumber : ℕ → Value → Type 0
IsNumber n (Num s v) = v ≡ pos n
IsNumber n _ = ⊥

-- the row is about column n of the table with this id: its first two values are the id and n
abbrev pub IsAboutColumn : ℕ → ℕ → Row → Type 0
IsAboutColumn id n row = IsNumber id (value_at row 0) × IsNumber n (value_at row 1)

-- the row says NOT NULL: its eighth value is 0
abbrev pub SaysNotNull : Row → Type 0
SaysNotNull row = IsNumber 0 (value_at row 7)

-- ---- columns as of an event

module _ (place : ℕ → ℕ) (second : List Version) (id : ℕ) (at : EventId) where
  -- a row about the column that started before
  abbrev pub IsRowBefore : ℕ → Version → Type 0
  IsRowBefore n w = IsAboutColumn id n (values_of w) × IsEarlier place w.start at

  -- the last of such rows to start
  pub record IsLastBefore (n : ℕ) (w : Version) : Type 0 where
    pub before : IsRowBefore n w
    pub last : AllByRecursion (λ x. IsRowBefore n x → IsEarlier place w.start x.start → ⊥) second

  -- the column takes the value: there is a row about it, or the value is NULL and the last such row, if there is
  -- one, doesn't say NOT NULL
  abbrev pub Takes : ℕ → Option TypedValue → Type 0
  Takes n (Some t) = Some_of (IsRowBefore n) second
  Takes n None = AllByRecursion (λ w. IsLastBefore n w → SaysNotNull (values_of w) → ⊥) second

  -- column n and those behind it take these values
  abbrev pub TakeFrom : ℕ → List (Option TypedValue) → Type 0
  TakeFrom n [] = Unit {0}
  TakeFrom n (v ∷ vs) = Takes n v × TakeFrom (n + 1) vs

-- ---- versions

-- the columns of a user's table took the values of each version when it started; what is missing is NULL
abbrev pub AllRespectColumns : (ℕ → ℕ) → List Version → Table → Type 0
AllRespectColumns place second t =
    2 < t.def.id
    → AllByRecursion (λ v. TakeFrom place second t.def.id v.start 1 (filled_stored t.def.columns v.values)) t.versions

-- so it is in all tables
abbrev pub VersionsRespectColumns : (ℕ → ℕ) → Tables → Type 0
VersionsRespectColumns place T = AllByRecursion (AllRespectColumns place (versions_of T columns_id)) T
