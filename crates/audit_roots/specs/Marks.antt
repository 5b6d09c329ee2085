-- The starts and ends of versions, without copies of their values.
use Rattle.std.specs.Prelude.{All, ℕ, ◌≡◌, ◌==◌, not, Bool, false, if◌then◌else◌, List, [], ◌∷◌, ◌++◌, map, flat_map, take, drop, Some, None}
use Rattle.std.specs.List.Sorted.{IsNonDecreasingBy}
use Rattle.std.specs.declared.cmp.Ordering.{Ordering}
use Rattle.std.specs.Ordering.{nat_cmp, ordering_then}
use Rattle.sql_types.specs.declared.event.Event.{Event}
use Rattle.sql_types.specs.declared.version.Table.{Table}
use Rattle.sql_types.specs.declared.version.Version.{Version}
use Rattle.format_event.specs.Leaf.{event_bytes}
use Rattle.format_image.specs.RowBytes.{AreValues}
use Rattle.spec_model.specs.Catalog.{Tables}
use Rattle.spec_model.specs.Events.{fields_of, version_events}
use Rattle.spec_model.specs.Lists.{sorted}
use Rattle.audit_roots.specs.declared.marks.Mark.{Mark}
use Rattle.audit_roots.specs.declared.shown.ImageTable.{ImageTable}
use Rattle.audit_roots.specs.ImageTable.{table_of}

-- the start or the end that is marked
abbrev pub event_of : Mark → Event
event_of m =
    record {
      table = m.table;
      tx = m.tx;
      seq = m.seq;
      ends = if m.is_end then Some m.version.now.start else None;
      columns = fields_of m.version.now.values;
    }

abbrev pub tx_of : Mark → ℕ
tx_of m = m.tx

abbrev pub number_of : Mark → ℕ
number_of m = m.seq

-- the hash of its leaf
abbrev pub leaf_hash : (List ℕ → List ℕ) → Mark → List ℕ
leaf_hash h m = h (0 ∷ event_bytes (event_of m))

abbrev pub is_end : Mark → Bool
is_end m = m.is_end

abbrev pub is_start : Mark → Bool
is_start m = not m.is_end

-- for each start the next of the first list, and for each end the next of the second
abbrev pub woven : {A : Type 0} → List Mark → List A → List A → List A
woven [] starts ends = []
woven (m ∷ ms) starts ends =
    if m.is_end then take 1 ends ++ woven ms starts (drop 1 ends) else take 1 starts ++ woven ms (drop 1 starts) ends

-- the values of a version have a spelling
abbrev pub HasEncodableValues : Version → Type 0
HasEncodableValues v = AreValues v.values

-- those of all versions of a table
pub record HaveEncodableValues (s : ImageTable) : Type 0 where
  pub base : All HasEncodableValues s.rows.now.base
  pub history : All HasEncodableValues s.rows.now.history

abbrev pub HasValues : Mark → Type 0
HasValues m = AreValues m.version.now.values

-- by the transaction, then by the table, then by number
abbrev pub leaf_cmp : Event → Event → Ordering
leaf_cmp a b = ordering_then (ordering_then (nat_cmp a.tx b.tx) (nat_cmp a.table b.table)) (nat_cmp a.seq b.seq)

-- the starts and ends of the versions of a table
abbrev pub events_in : Table → List Event
events_in t = flat_map (version_events t.def.id) t.versions

abbrev pub events_shown : ImageTable → List Event
events_shown s = events_in (table_of s)

-- of the versions of these tables, sorted
pub record AreMarks (tables : Tables) (marks : List Mark) : Type 0 where
  pub events : map event_of marks ≡ sorted leaf_cmp (flat_map events_in tables)
  pub rise : IsNonDecreasingBy tx_of marks
  pub values : All HasValues marks

-- the first of these, if there is one, is of another table
abbrev pub StartsOther : ℕ → List Mark → Type 0
StartsOther table [] = Unit {0}
StartsOther table (m ∷ ms) = (m.table == table) ≡ false
