-- What one transaction after another keeps: numbers without a gap, each once; what ends began before; of two
-- versions of one
-- key one ends before the other starts; and each version fits its table.
use Rattle.std.specs.Prelude.{ℕ, ◌+◌, ◌≡◌, ◌<◌, ◌⊎◌, true, cond, nat_lt, List, [], ◌∷◌, Option, Some, None, IfSome}
use Rattle.std.specs.List.{AllByRecursion, sum_by}
use Rattle.sql_value.specs.declared.column.ColumnDef.{ColumnDef}
use Rattle.sql_types.specs.declared.version.Table.{Table}
use Rattle.sql_types.specs.declared.version.Version.{Version}
use Rattle.spec_model.specs.Rows.{EventId, same_event}
use Rattle.spec_model.specs.Keys.{same_key, version_key}
use Rattle.spec_model.specs.Catalog.{Tables}
use Rattle.spec_model.specs.Runs.{Sound}
use Rattle.law_journal.specs.Fits.{FitsSoFar}

-- ---- how many starts and ends are this event

abbrev pub is_it : EventId → EventId → ℕ
is_it event e = cond (same_event e event) 1 0

abbrev pub ends_with : EventId → Option EventId → ℕ
ends_with event None = 0
ends_with event (Some e) = is_it event e

abbrev pub count_in : EventId → Version → ℕ
count_in event v = is_it event v.start + ends_with event v.end

abbrev pub count : EventId → List Version → ℕ
count event versions = sum_by (count_in event) versions

abbrev pub count_all : EventId → Tables → ℕ
count_all event tables = sum_by (λ t. count event t.versions) tables

-- the events of the transaction have the numbers 0 to k - 1, each once, and no other
abbrev pub IsNumbered : ℕ → ℕ → Tables → Type 0
IsNumbered tx k tables = (n : ℕ) → count_all (tx, n) tables ≡ cond (nat_lt n k) 1 0

-- ---- order: by the place of the transaction in the journal, and then by number

module _ (place : ℕ → ℕ) where
  abbrev pub IsEarlier : EventId → EventId → Type 0
  IsEarlier a b = (place a.0 < place b.0) ⊎ ((place a.0 ≡ place b.0) × (a.1 < b.1))

  -- the version has ended, before this event
  abbrev pub EndedBefore : EventId → Version → Type 0
  EndedBefore event v = (e : EventId) × (v.end ≡ Some e) × IsEarlier e event

  -- of two versions of one key one ends before the other starts
  abbrev pub Apart : List ColumnDef → Version → Version → Type 0
  Apart columns v w =
      same_key (version_key columns v) (version_key columns w) ≡ true
      → EndedBefore w.start v ⊎ EndedBefore v.start w

  abbrev pub AllApart : List ColumnDef → List Version → Type 0
  AllApart columns [] = Unit {0}
  AllApart columns (v ∷ vs) = AllByRecursion (Apart columns v) vs × AllApart columns vs

  -- it started before now, and if it ended, then after its start and before now
  pub record IsPast (now : EventId) (v : Version) : Type 0 where
    pub start : IsEarlier v.start now
    pub end : IfSome v.end (λ e. IsEarlier v.start e × IsEarlier e now)

  pub record KeptTable (now : EventId) (t : Table) : Type 0 where
    pub past : AllByRecursion (IsPast now) t.versions
    pub apart : AllApart t.def.columns t.versions
    pub fit : AllByRecursion (λ v. FitsSoFar t.def.columns v.values) t.versions

  -- tables before the event of transaction tx with the number seq
  pub record Kept (tx seq : ℕ) (tables : Tables) : Type 0 where
    pub sound : Sound tx seq tables
    pub own : IsNumbered tx seq tables
    pub others : (id : ℕ) → (k : ℕ) × IsNumbered id k tables
    pub each : AllByRecursion (KeptTable (tx, seq)) tables
