-- What ALTER TABLE and DROP TABLE leave of a definition.
use Rattle.std.specs.Prelude.{◌≡◌, ◌<◌, ◌≤◌, ℕ, true, false, List, [], ◌∷◌, length, Some}
use Rattle.sql_value.specs.declared.column.ColumnDef.{ColumnDef}
use Rattle.sql_types.specs.declared.table.TableDef.{TableDef}
use Rattle.sql_types.specs.declared.table.Part.TheVariants.{Base}
use Rattle.spec_model.specs.Columns.{names_of}
use Rattle.spec_model.specs.Limits.{max_columns}
use Rattle.spec_model.specs.Lists.{repeats}
use Rattle.spec_model.specs.Keys.{key_places}
use Rattle.spec_model.specs.Catalog.{Defs, find_part}

-- Columns, and those in their place: each has its type and its place in the key, and may be NULL where it might before.
-- Those behind them may be NULL, and are in no key.
abbrev pub ColumnsStay : List ColumnDef → List ColumnDef → Type 0
ColumnsStay [] [] = Unit {0}
ColumnsStay [] (d ∷ ds) = (d.nullable ≡ true) × (d.key_position ≡ 0) × ColumnsStay [] ds
ColumnsStay (c ∷ cs) [] = ⊥
ColumnsStay (c ∷ cs) (d ∷ ds) =
    (d.ty ≡ c.ty) × (d.key_position ≡ c.key_position) × (c.nullable ≡ true → d.nullable ≡ true) × ColumnsStay cs ds

pub record Alters (old new : TableDef) : Type 0 where
  pub id : new.id ≡ old.id
  pub kind : new.kind ≡ old.kind
  pub indexes : new.indexes ≡ old.indexes
  pub columns : ColumnsStay old.columns new.columns
  pub key : key_places new.columns ≡ key_places old.columns
  pub names : repeats (names_of old.columns) ≡ false → repeats (names_of new.columns) ≡ false
  pub few : length old.columns ≤ max_columns → length new.columns ≤ max_columns

-- the definition is to take the place of that of a user's table that stands
pub record Altering (defs : Defs) (new : TableDef) : Type 0 where
  pub name : List ℕ
  pub old : TableDef
  pub found : find_part defs name ≡ Some (old, Base)
  pub users : 2 < old.id
  pub stands : old.gone ≡ false
  pub alters : Alters old new
