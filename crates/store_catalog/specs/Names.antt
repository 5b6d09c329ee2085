-- The names of tables, and where they lead.
use Rattle.std.specs.Prelude.{ℕ, ◌≡◌, ◌+◌, ◌<◌, ◌++◌, false, List, [], ◌∷◌, length, get_or, slice_set, IfNone, IfSome}
use Rattle.std.specs.List.{list_any}
use Rattle.sql_types.specs.declared.table.Part.{Part}
use Rattle.sql_types.specs.declared.table.Part.TheVariants.{History, View}
use Rattle.sql_types.specs.declared.table.TableDef.{TableDef}
use Rattle.spec_model.specs.Catalog.{Defs, own_part}
use Rattle.spec_model.specs.Create.{all_names, table_names}
use Rattle.spec_model.specs.Lists.{has_name, repeats}
use Rattle.store_catalog.specs.declared.named_defs.NamedPlace.{NamedPlace}
use Rattle.store_catalog.specs.declared.named_defs.PlacedDef.{PlacedDef}

abbrev pub NameEntry : Type 0
NameEntry = List ℕ × NamedPlace

-- the name leads to this part of the table at this place; what is empty is no name
abbrev pub leading : List ℕ → ℕ → Part → List NameEntry
leading [] place part = []
leading (b ∷ bs) place part = (b ∷ bs, record { place = place; part = part }) ∷ []

-- those of a table: its own, and those of its history and its view where it has them
abbrev pub names_at : ℕ → TableDef → List NameEntry
names_at place def =
    leading def.name place (own_part def) ++ leading def.history place History ++ leading def.view place View

-- those of all tables, in the order of their definitions, the first of which has this place
abbrev pub names_from : ℕ → Defs → List NameEntry
names_from place [] = []
names_from place (def ∷ defs) = names_at place def ++ names_from (place + 1) defs

-- no name of the definition stands for something, and no two of them are one
pub record HasNewNames (defs : Defs) (def : TableDef) : Type 0 where
  pub unused : list_any (has_name (all_names defs)) (table_names def) ≡ false
  pub apart : repeats (table_names def) ≡ false

-- both have the same names, and the same id, by which the system's tables are known
pub record HaveSameNames (old new : TableDef) : Type 0 where
  pub id : old.id ≡ new.id
  pub name : old.name ≡ new.name
  pub history : old.history ≡ new.history
  pub view : old.view ≡ new.view

-- the definition may come in the place of the one there: it has the same names, or with it are those that all have then
pub record MayReplace (defs : Defs) (new : PlacedDef) : Type 0 where
  pub within : new.place < length defs
  pub same_names : IfNone new.names ((d : TableDef) → HaveSameNames (get_or defs new.place d) new.def)
  pub new_names : IfSome new.names (λ names. names.entries ≡ names_from 0 (slice_set defs new.place new.def))
