-- Definitions that differ at most in what a table's own row says: its names, its kind, and whether it was dropped.
use Rattle.std.specs.Prelude.{◌≡◌, ⊤, [], ◌∷◌}
use Rattle.sql_types.specs.declared.table.TableDef.{TableDef}
use Rattle.spec_model.specs.Catalog.{Defs}

-- of one table, with the same columns and indexes
pub record HasSameItems (a b : TableDef) : Type 0 where
  pub id : a.id ≡ b.id
  pub columns : a.columns ≡ b.columns
  pub dropped : a.dropped ≡ b.dropped
  pub indexes : a.indexes ≡ b.indexes

-- each and the one at its place
abbrev pub HaveSameItems : Defs → Defs → Type 0
HaveSameItems [] [] = ⊤
HaveSameItems (a ∷ rest) (b ∷ others) = HasSameItems a b × HaveSameItems rest others
HaveSameItems _ _ = ⊥
