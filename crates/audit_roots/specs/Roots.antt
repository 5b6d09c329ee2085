-- The events of a transaction, by table and number: their numbers, and the roots over those of each table.
use Rattle.std.specs.Prelude.{ℕ, ◌==◌, Bool, true, false, List, [], ◌∷◌, map, Option}
use Rattle.std.specs.List.{filter}
use Rattle.std.specs.Ordering.{nat_cmp}
use Rattle.sql_types.specs.declared.entry.TxEntry.{TxEntry}
use Rattle.sql_types.specs.declared.event.Event.{Event}
use Rattle.base_merkle.specs.TreeHash.{tree_hash}
use Rattle.spec_model.specs.Lists.{or_else}
use Rattle.format_event.specs.Leaf.{event_bytes}
use Rattle.law_catalog_rows.specs.Least.{least}
use Rattle.spec_verify.specs.declared.place.Place.{Place}
use Rattle.spec_verify.specs.declared.place.Place.TheVariants as at
use Rattle.spec_verify.specs.Entries.{TableRoot, are_numbered, other_roots, root_place}
use Rattle.spec_verify.specs.First.{unless, first}
use Rattle.audit_roots.specs.declared.marks.Mark.{Mark}
use Rattle.audit_roots.specs.Marks.{event_of, tx_of}

-- ---- in groups: neighbours of one table

abbrev pub same_first : Event → List Event → Bool
same_first x [] = false
same_first x (y ∷ ys) = x.table == y.table

-- in front of the first group, where it is of that one's table
abbrev pub joined : Bool → Event → List (List Event) → List (List Event)
joined true x (g ∷ gs) = (x ∷ g) ∷ gs
joined _ x gs = (x ∷ []) ∷ gs

abbrev pub grouped : List Event → List (List Event)
grouped [] = []
grouped (x ∷ xs) = joined (same_first x xs) x (grouped xs)

abbrev pub numbers_in : List Event → List ℕ
numbers_in es = map (λ (e : Event). e.seq) es

-- those of a transaction
abbrev pub run_in : ℕ → List Mark → List Event
run_in tx marks = map event_of (filter (λ m. tx_of m == tx) marks)

module _ (h : List ℕ → List ℕ) where
  -- the table of a group, and the root over its leaves
  abbrev pub group_root : List Event → TableRoot
  group_root [] = (0, tree_hash h [])
  group_root (e ∷ es) = (e.table, tree_hash h (map event_bytes (e ∷ es)))

  abbrev pub roots_in : List Event → List TableRoot
  roots_in es = map group_root (grouped es)

  -- what fails of an entry that has these events
  abbrev pub fault_of : List Event → TxEntry → Option Place
  fault_of es e =
      or_else
      (unless (are_numbered (numbers_in es)) (at.Numbers e.id))
      (root_place e.id (least nat_cmp (other_roots e.roots (roots_in es))))

  -- the first entry of which something fails
  abbrev pub first_fault : List Mark → List TxEntry → Option Place
  first_fault marks entries = first (λ k (e : TxEntry). fault_of (run_in e.id marks) e) entries
