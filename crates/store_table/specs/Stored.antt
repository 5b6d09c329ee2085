-- What contracts see of a table's versions with their key order and indexes.
use Rattle.std.specs.Prelude.{ℕ, ◌++◌, List, [], ◌∷◌, length, map, None}
use Rattle.std.specs.List.{filter}
use Rattle.std.specs.Ordering.{is_lt}
use Rattle.sql_types.specs.declared.table.IndexDef.{IndexDef}
use Rattle.sql_types.specs.declared.version.Version.{Version}
use Rattle.spec_model.specs.Rows.{EventId, live}
use Rattle.spec_model.specs.Keys.{key_cmp, live_by_key_at}
use Rattle.spec_continued.specs.Continued.{index_with}
pub use Rattle.spec_protocol.specs.Cells.{Index}
pub use Rattle.spec_protocol.specs.TablesAreSerial.{projected, index_order}
pub use Rattle.spec_protocol.specs.TableVisits.{reordered}
pub use Rattle.spec_protocol.specs.UndoVisits.{without_last}

pub record Stored : Type 0 where
  -- the places of the key's columns, where there are versions
  pub key : List ℕ
  pub versions : List Version
  -- the starts of the versions that stand, in key order
  pub order : List EventId
  pub indexes : List Index

-- these versions, whose key is at these places, with the indexes of these definitions
abbrev pub stored_with : List ℕ → List IndexDef → List Version → Stored
stored_with key indexes versions = record {
  key = key;
  versions = versions;
  order = map (λ v. v.start) (live_by_key_at key None versions);
  indexes = map (index_with key versions) indexes;
}

-- key order and indexes follow the versions, whose key is at these places
abbrev pub with_versions : List ℕ → List Version → Stored → Stored
with_versions key versions s = record {
  key = key;
  versions = versions;
  order = map (λ v. v.start) (live_by_key_at key None versions);
  indexes = map (reordered key versions) s.indexes;
}

-- a table's versions, and room for so many more starts
pub record ReservedTable : Type 0 where
  pub stored : Stored
  pub room : ℕ

-- one index more, of the columns with these ordinals
abbrev pub with_index : List ℕ → Stored → Stored
with_index ordinals s = record {
  key = s.key;
  versions = s.versions;
  order = s.order;
  indexes = s.indexes
      ++ record { ordinals = ordinals; order = index_order s.key ordinals s.versions } ∷ [];
}

abbrev pub without_last_index : Stored → Stored
without_last_index s = record {
  key = s.key;
  versions = s.versions;
  order = s.order;
  indexes = without_last s.indexes;
}

-- how many versions that stand have a row in the index with these ordinals below that of this version
abbrev pub rows_below : List ℕ → List ℕ → Version → List Version → ℕ
rows_below key ordinals v versions =
    length (filter (λ w. is_lt (key_cmp (projected key ordinals w) (projected key ordinals v)))
    (live versions))
