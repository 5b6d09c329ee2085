-- What the checks of CREATE, ALTER and DROP leave of the definitions of users' tables.
use Rattle.std.specs.Prelude.{ℕ, ◌≡◌, ◌≤◌, ◌<◌, false, true, List, [], ◌∷◌, ◌++◌, map, length}
use Rattle.std.specs.List.{AllByRecursion, list_any, list_all}
use Rattle.sql_value.specs.declared.column.ColumnDef.{ColumnDef}
use Rattle.sql_value.specs.declared.column.TableKind.{TableKind}
use Rattle.sql_value.specs.declared.column.TableKind.TheVariants.{AppendOnly, Updatable}
use Rattle.sql_value.specs.Stored.{is_in_range}
use Rattle.sql_types.specs.declared.table.TableDef.{TableDef}
use Rattle.sql_types.specs.declared.table.IndexDef.{IndexDef}
use Rattle.spec_model.specs.Lists.{has_name, repeats}
use Rattle.spec_model.specs.Checks.{is_declared}
use Rattle.law_catalog_rows.specs.IsEncodableDef.{number_repeats, dropped_are_right}
use Rattle.spec_model.specs.Catalog.{Defs}
use Rattle.spec_model.specs.SystemTables.{tables_def, columns_def}
use Rattle.spec_model.specs.Create.{names_of, table_names, is_ledger_name, has_null_key, key_position_of}

pub record FormedColumn (c : ColumnDef) : Type 0 where
  pub name : length c.name ≤ 128
  pub ty : is_in_range c.ty ≡ true

pub record FormedIndex (columns : ℕ) (i : IndexDef) : Type 0 where
  pub name : length i.name ≤ 128
  pub count : length i.ordinals ≤ 4
  pub ordinals : AllByRecursion (λ o. (1 ≤ o) × (o ≤ columns)) i.ordinals
  pub differ : number_repeats i.ordinals ≡ false

-- the key positions are the places, from 1, in a list of at most 4 names of columns
pub record HasKeyPositions (columns : List ColumnDef) : Type 0 where
  pub key : List (List ℕ)
  pub few : length key ≤ 4
  pub differ : repeats key ≡ false
  pub declared : list_all (is_declared columns) key ≡ true
  pub places : AllByRecursion (λ c. c.key_position ≡ key_position_of key c.name) columns

abbrev pub HistoryOf : TableKind → List ℕ → Type 0
HistoryOf AppendOnly name = name ≡ []
HistoryOf Updatable name = length name ≤ 128

pub record Formed (def : TableDef) : Type 0 where
  pub id : def.id ≤ 34
  pub name : length def.name ≤ 128
  pub history : HistoryOf def.kind def.history
  pub view : length def.view ≤ 128
  -- no two of its names are one
  pub own_names : repeats (table_names def) ≡ false
  pub count : length def.columns ≤ 64
  pub columns : AllByRecursion FormedColumn def.columns
  -- no column was dropped twice, and none of the key
  pub dropped : dropped_are_right def ≡ true
  pub column_names : repeats (names_of def.columns) ≡ false
  pub not_ledgers : list_any (λ c. is_ledger_name c.name) def.columns ≡ false
  pub keyed : HasKeyPositions def.columns
  pub not_null : has_null_key def ≡ false
  pub few_indexes : length def.indexes ≤ 4
  pub indexes : AllByRecursion (FormedIndex (length def.columns)) def.indexes
  pub index_names : repeats (map (λ i. i.name) def.indexes) ≡ false

-- no name of a table is one of a table before it
abbrev pub AllFresh : List (List ℕ) → List (List (List ℕ)) → Type 0
AllFresh before [] = Unit {0}
AllFresh before (names ∷ more) = (list_any (has_name before) names ≡ false) × AllFresh (before ++ names) more

-- the two system tables stand in front
abbrev pub AreInFront : Defs → Type 0
AreInFront (first ∷ second ∷ users) = (first ≡ tables_def) × (second ≡ columns_def)
AreInFront _ = ⊥

pub record AllFormed (defs : Defs) : Type 0 where
  pub system : AreInFront defs
  pub each : AllByRecursion (λ (def : TableDef). 2 < def.id → Formed def) defs
  pub fresh : AllFresh [] (map table_names defs)
