-- Groups of the tables of an image, which may be gone through apart: the roots that each finds wrong, and what is left.
use Rattle.std.specs.Prelude.{ℕ, zero, suc, ◌==◌, not, Bool, if◌then◌else◌, List, [], ◌∷◌, map, take, drop, Option, Some, None, option_map}
use Rattle.std.specs.List.{filter, list_any}
use Rattle.std.specs.Ordering.{nat_cmp}
use Rattle.std.specs.declared.cmp.Ordering.{Ordering}
use Rattle.std.specs.declared.cmp.Ordering.TheVariants.{Less, Equal, Greater}
use Rattle.sql_types.specs.declared.entry.TxEntry.{TxEntry}
use Rattle.sql_types.specs.declared.event.Event.{Event}
use Rattle.sql_types.specs.declared.image.Image.{Image}
use Rattle.sql_types.specs.declared.version.Table.{Table}
use Rattle.spec_model.specs.Catalog.{Tables}
use Rattle.spec_model.specs.Events.{all_events}
use Rattle.base_merkle.specs.TreeHash.{tree_hash}
use Rattle.spec_ledger.specs.Entries.{has_events, leaves_of}
use Rattle.format_image.specs.Tables.{tables_in}
use Rattle.law_catalog_rows.specs.Least.{least, lesser_of}
use Rattle.spec_verify.specs.declared.place.Place.{Place}
use Rattle.spec_verify.specs.declared.place.Place.TheVariants as at
use Rattle.spec_verify.specs.Entries.{TableRoot, are_numbered, root_at, same_root}
use Rattle.spec_verify.specs.Groups.{Found, first_found, found_cmp}
use Rattle.audit_roots.specs.declared.groups.Fault.{Fault}
use Rattle.audit_roots.specs.declared.groups.Fault.TheVariants.{Numbers, Root}

-- so many tables of an image, from the one at this place on
abbrev pub group_of : ℕ → ℕ → Image → Tables
group_of from count i = take count (drop from (tables_in i))

-- one of these tables has this id
abbrev pub is_table : Tables → ℕ → Bool
is_table tables id = list_any (λ (t : Table). t.def.id == id) tables

-- ---- what a group finds of an entry

module _ (h : List ℕ → List ℕ) where
  -- the root over the transaction's leaves in a table, if it has some there
  abbrev pub own_root : ℕ → Table → Option (List ℕ)
  own_root tx t = if has_events tx t then Some (tree_hash h (leaves_of tx t)) else None

  -- in this table the entry has another root, or one of the two is missing
  abbrev pub is_wrong : TxEntry → Table → Bool
  is_wrong e t = not (same_root (root_at e.roots t.def.id) (own_root e.id t))

  abbrev pub wrong_in : Tables → TxEntry → List ℕ
  wrong_in tables e = map (λ (t : Table). t.def.id) (filter (is_wrong e) tables)

  -- the place of the first entry that is wrong in one of these tables, and the least of them
  unfoldable pub wrong_root : Tables → List TxEntry → Option (Found ℕ)
  wrong_root tables entries = first_found (λ k e. least nat_cmp (wrong_in tables e)) entries

-- ---- what is left

-- the roots of an entry for none of these tables
abbrev pub strange : Tables → TxEntry → List ℕ
strange tables e = filter (λ id. not (is_table tables id)) (map (λ (r : TableRoot). r.0) e.roots)

-- the numbers of its events are at fault; or, where they aren't, a root for no table
abbrev pub left_of : Tables → TxEntry → Option Fault
left_of tables e =
    if are_numbered (map (λ (x : Event). x.seq) (all_events e.id tables))
    then option_map Root (least nat_cmp (strange tables e))
    else Some Numbers

-- at the first entry of which one of these is found
unfoldable pub left_over : Tables → List TxEntry → Option (Found Fault)
left_over tables entries = first_found (λ k e. left_of tables e) entries

-- ---- both

-- the numbers come before the roots, and these are by table
abbrev pub fault_cmp : Fault → Fault → Ordering
fault_cmp Numbers Numbers = Equal
fault_cmp Numbers (Root b) = Less
fault_cmp (Root a) Numbers = Greater
fault_cmp (Root a) (Root b) = nat_cmp a b

abbrev pub as_fault : Found ℕ → Found Fault
as_fault f = (f.0, Root f.1)

-- the lesser of what is left and of what the groups find
abbrev pub merged : Option (Found Fault) → Option (Found ℕ) → Option (Found Fault)
merged left roots = lesser_of (found_cmp fault_cmp) left (option_map as_fault roots)

-- the id of the entry at this place
abbrev pub id_at : List TxEntry → ℕ → ℕ
id_at [] k = zero
id_at (e ∷ es) zero = e.id
id_at (e ∷ es) (suc k) = id_at es k

abbrev pub place_of : ℕ → Fault → Place
place_of tx Numbers = at.Numbers tx
place_of tx (Root table) = at.Root tx table

abbrev pub fault_place : List TxEntry → Option (Found Fault) → Option Place
fault_place entries found = option_map (λ (f : Found Fault). place_of (id_at entries f.0) f.1) found
