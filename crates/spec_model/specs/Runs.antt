-- What holds of the tables of each run, between two events of a transaction.
use Rattle.std.specs.Prelude.{ℕ, ◌<◌, ◌≡◌, false, List, [], ◌∷◌, Option, Some, None}
use Rattle.std.specs.List.{AllByRecursion}
use Rattle.std.specs.declared.cmp.Ordering.TheVariants.{Less}
use Rattle.sql_types.specs.declared.version.Table.{Table}
use Rattle.sql_types.specs.declared.version.Version.{Version}
use Rattle.spec_model.specs.Lists.{repeats}
use Rattle.spec_model.specs.Rows.{EventId, start_cmp}
use Rattle.spec_model.specs.Catalog.{Tables, defs_of}
use Rattle.spec_model.specs.Create.{names_of}
use Rattle.spec_model.specs.Agreement.{IdsFrom}

-- versions by rising start, no two with one start
abbrev pub Rising : List Version → Type 0
Rising [] = Unit {0}
Rising (v ∷ vs) = AllByRecursion (λ w. start_cmp v w ≡ Less) vs × Rising vs

-- an event of another transaction, or with a number below seq
abbrev pub IsBefore : ℕ → ℕ → EventId → Type 0
IsBefore tx seq event = event.0 ≡ tx → event.1 < seq

abbrev pub EndsBefore : ℕ → ℕ → Option EventId → Type 0
EndsBefore tx seq (Some event) = IsBefore tx seq event
EndsBefore tx seq None = Unit {0}

pub record MadeBefore (tx seq : ℕ) (v : Version) : Type 0 where
  pub start : IsBefore tx seq v.start
  pub end : EndsBefore tx seq v.end

-- a table before the event of transaction tx with the number seq: it has no event of tx with that number or
-- above
pub record SoundTable (tx seq : ℕ) (t : Table) : Type 0 where
  -- no two columns have one name
  pub names : repeats (names_of t.def.columns) ≡ false
  pub rising : Rising t.versions
  pub before : AllByRecursion (MadeBefore tx seq) t.versions

pub record Sound (tx seq : ℕ) (tables : Tables) : Type 0 where
  -- the first table has the id 1, the next 2, and so on
  pub ids : IdsFrom 1 (defs_of tables)
  pub each : AllByRecursion (SoundTable tx seq) tables
