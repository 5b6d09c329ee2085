-- What each change of a statement is: the start of a row that fits, at a key that no standing row has, or the
-- end of a
-- version that stands.
use Rattle.std.specs.Prelude.{ℕ, ◌+◌, ◌≡◌, ◌⊎◌, false, List, [], ◌∷◌, map, None, Option}
use Rattle.sql_value.specs.declared.column.ColumnDef.{ColumnDef}
use Rattle.sql_types.specs.declared.version.TypedValue.{TypedValue}
use Rattle.sql_types.specs.declared.version.Table.{Table}
use Rattle.sql_types.specs.declared.version.Version.{Version}
use Rattle.spec_model.specs.Rows.{EventId, value_or_null}
use Rattle.spec_model.specs.Keys.{Key, key_of, has_live_row}
use Rattle.spec_model.specs.Changes.{Change, Starts, Ends}
use Rattle.spec_model.specs.Catalog.{Tables}
use Rattle.spec_model.specs.ChangeSets.{TableChange, changed_in}
use Rattle.law_journal.specs.Fits.{Fits}

-- the key that values have
abbrev pub key_in : List ColumnDef → List (Option TypedValue) → Key
key_in columns values = key_of columns (map value_or_null values)

-- the version that this event started is there, and stands
abbrev pub HasLive : EventId → List Version → Type 0
HasLive start [] = ⊥
HasLive start (v ∷ vs) = ((v.start ≡ start) × (v.end ≡ None)) ⊎ HasLive start vs

abbrev pub IsFine : List ColumnDef → Change → List Version → Type 0
IsFine columns (Starts values) versions =
    Fits columns values × (has_live_row columns (key_in columns values) versions ≡ false)
IsFine columns (Ends start) versions = HasLive start versions

-- the table with this id is there, and so it is with it
abbrev pub OfTable : ℕ → (Table → Type 0) → Tables → Type 0
OfTable id P [] = ⊥
OfTable id P (t ∷ ts) = ((t.def.id ≡ id) × P t) ⊎ OfTable id P ts

abbrev pub IsFineIn : TableChange → Tables → Type 0
IsFineIn c tables = OfTable c.0 (λ t. IsFine t.def.columns c.1 t.versions) tables

-- each over the tables that those before it left, numbered from seq
abbrev pub AllFine : ℕ → ℕ → List TableChange → Tables → Type 0
AllFine tx seq [] tables = Unit {0}
AllFine tx seq (c ∷ cs) tables = IsFineIn c tables × AllFine tx (seq + 1) cs (changed_in (tx, seq) c tables)
