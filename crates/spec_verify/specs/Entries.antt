-- Entries, and the starts and ends that they are of.
use Rattle.std.specs.Prelude.{ℕ, ◌==◌, not, Bool, true, false, if◌then◌else◌, List, [], ◌∷◌, ◌++◌, length, map, flat_map, take, Option, Some, None}
use Rattle.std.specs.List.{list_any, list_all, filter, range_with_len}
use Rattle.std.specs.Str.{bytes_eq}
use Rattle.std.specs.declared.cmp.Ordering.{Ordering}
use Rattle.std.specs.Ordering.{nat_cmp, ordering_then}
use Rattle.sql_types.specs.declared.entry.TxEntry.{TxEntry}
use Rattle.sql_types.specs.declared.event.Event.{Event}
use Rattle.sql_types.specs.declared.image.Image.{Image}
use Rattle.sql_types.specs.declared.version.Table.{Table}
use Rattle.spec_model.specs.Lists.{or_else}
use Rattle.spec_model.specs.Rows.{EventId, event_cmp}
use Rattle.spec_model.specs.Events.{version_events, all_events}
use Rattle.format_image.specs.Entries.{roots_of}
use Rattle.format_image.specs.Tables.{tables_in}
use Rattle.spec_verify.specs.declared.place.Place.{Place}
use Rattle.spec_verify.specs.declared.place.Place.TheVariants as at
use Rattle.law_catalog_rows.specs.Least.{least, lesser_of}
use Rattle.spec_verify.specs.First.{unless, first}

-- ---- no two entries have one id, and no version was started or ended by a transaction without an entry

abbrev pub has_id : List TxEntry → ℕ → Bool
has_id entries id = list_any (λ (e : TxEntry). e.id == id) entries

-- a table, and an event in it: by the table, then by the transaction, then by number
abbrev pub TableEvent : Type 0
TableEvent = ℕ × EventId

abbrev pub table_event_cmp : TableEvent → TableEvent → Ordering
table_event_cmp a b = ordering_then (nat_cmp a.0 b.0) (event_cmp a.1 b.1)

-- the least of these, as a place
abbrev pub event_place : Option TableEvent → Option Place
event_place None = None
event_place (Some e) = Some (at.Event e.0 e.1.0 e.1.1)

abbrev pub least_event : List TableEvent → Option Place
least_event events = event_place (least table_event_cmp events)

-- the event that a place names, if it names one
abbrev pub event_at : Option Place → Option TableEvent
event_at (Some (at.Event table tx seq)) = Some (table, (tx, seq))
event_at _ = None

-- the lesser of two versions that may be at fault, by their starts
abbrev pub lesser_version : Option Place → Option Place → Option Place
lesser_version a b = event_place (lesser_of table_event_cmp (event_at a) (event_at b))

-- the starts and ends in a table
abbrev pub events_in : Table → List TableEvent
events_in t = map (λ (e : Event). (e.table, (e.tx, e.seq))) (flat_map (version_events t.def.id) t.versions)

-- starts and ends by transactions that have no entry
abbrev pub strangers : Image → List TableEvent
strangers i = filter (λ (e : TableEvent). not (has_id i.entries e.1.0)) (flat_map events_in (tables_in i))

-- the first entry whose id an earlier one has
abbrev pub repeated_id : Image → Option Place
repeated_id i =
    first (λ k (e : TxEntry). unless (not (has_id (take k i.entries) e.id)) (at.Entry k)) i.entries

-- where there is none, the least start or end of a stranger
unfoldable pub id_fault : Image → Option Place
id_fault i = or_else (repeated_id i) (least_event (strangers i))

-- ---- an entry and its events: counted over all tables they bear the numbers from 0 on, without a gap or a
-- repetition; and the entry has a root for each table with an event of its transaction and for no other, the
-- tree hash of its leaves there

-- each number below their count stands among them once
abbrev pub are_numbered : List ℕ → Bool
are_numbered ns = list_all (λ n. length (filter (λ m. m == n) ns) == 1) (range_with_len 0 (length ns))

-- a table, and a root in it
abbrev pub TableRoot : Type 0
TableRoot = ℕ × List ℕ

abbrev pub root_at : List TableRoot → ℕ → Option (List ℕ)
root_at [] table = None
root_at (r ∷ rs) table = if r.0 == table then Some r.1 else root_at rs table

abbrev pub same_root : Option (List ℕ) → Option (List ℕ) → Bool
same_root None None = true
same_root (Some a) (Some b) = bytes_eq a b
same_root _ _ = false

-- the tables in which two lists have another root, or of which only one has one
abbrev pub other_roots : List TableRoot → List TableRoot → List ℕ
other_roots a b =
    filter (λ t. not (same_root (root_at a t) (root_at b t))) (map (λ r. r.0) a ++ map (λ r. r.0) b)

abbrev pub root_place : ℕ → Option ℕ → Option Place
root_place tx None = None
root_place tx (Some table) = Some (at.Root tx table)

module _ (h : List ℕ → List ℕ) (i : Image) where
  -- its numbers are at fault; where they are not, the least table whose root is
  abbrev pub entry_fault : TxEntry → Option Place
  entry_fault e =
      or_else
      (unless (are_numbered (map (λ (x : Event). x.seq) (all_events e.id (tables_in i)))) (at.Numbers e.id))
      (root_place e.id (least nat_cmp (other_roots e.roots (roots_of h e.id (tables_in i)))))

  -- the first entry with such a fault
  unfoldable pub root_fault : Option Place
  root_fault = first (λ k e. entry_fault e) i.entries
