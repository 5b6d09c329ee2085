-- What holds of the orders that are kept beside a table's versions.
use Rattle.std.specs.Prelude.{ℕ, ◌≡◌, ◌≤◌, List, [], map, vec_capacity}
use Rattle.std.specs.List.{AllByRecursion}
use Rattle.sql_types.specs.declared.version.Version.{Version}
use Rattle.spec_model.specs.Lists.{inserted}
use Rattle.spec_model.specs.Runs.{Rising}
use Rattle.store_table.specs.Ends.{endings_in}
use Rattle.store_table.specs.Orders.{in_order, order_cmp, starts_of}
use Rattle.store_table.specs.Stored as stored
use Rattle.store_table.specs.declared.index.Index.{Index}
use Rattle.store_table.specs.declared.orders.Orders.{Orders}

-- the order of an index is that of these versions
abbrev pub IsOf : List ℕ → List Version → Index → Type 0
IsOf key versions index = index.order.list ≡ starts_of (in_order index.ordinals key versions)

-- it is that of these versions and one more
abbrev pub IsWith : List ℕ → Version → List Version → Index → Type 0
IsWith key v versions index =
    index.order.list
    ≡ starts_of (inserted (order_cmp index.ordinals key) v (in_order index.ordinals key versions))

-- an index with room for so many starts
abbrev pub HasCapacity : ℕ → Index → Type 0
HasCapacity count index = count ≤ index.order.room

-- an index as contracts see it
abbrev pub index_seen : Index → stored.Index
index_seen index = record { ordinals = index.ordinals; order = index.order.list }

abbrev pub ordinals_of : List Index → List (List ℕ)
ordinals_of indexes = map (λ i. i.ordinals) indexes

-- key order and indexes are those of these versions
pub record IndexesAreOf (key : List ℕ) (versions : List Version) (o : Orders) : Type 0 where
  pub no_ordinals : o.key_order.ordinals ≡ []
  pub in_key_order : IsOf key versions o.key_order
  pub indexed : AllByRecursion (IsOf key versions) o.indexes.items

-- key order, indexes and ends are those of these versions
pub record AreOf (key : List ℕ) (versions : List Version) (o : Orders) : Type 0 where
  pub are_indexed : IndexesAreOf key versions o
  pub ends : o.ends.items ≡ endings_in versions

-- key order and indexes are those of these versions and of one more that stands
pub record IndexesAreWith (key : List ℕ) (v : Version) (versions : List Version) (o : Orders) : Type 0 where
  pub no_ordinals : o.key_order.ordinals ≡ []
  pub in_key_order : IsWith key v versions o.key_order
  pub indexed : AllByRecursion (IsWith key v versions) o.indexes.items

-- each has room for so many versions
pub record HaveCapacity (count : ℕ) (o : Orders) : Type 0 where
  pub for_keys : HasCapacity count o.key_order
  pub for_ends : count ≤ vec_capacity o.ends
  pub for_indexes : AllByRecursion (HasCapacity count) o.indexes.items

-- versions by rising start, with the places of the key's columns
pub record IsKept (key : List ℕ) (versions : List Version) (o : Orders) : Type 0 where
  pub rising : Rising versions
  pub are : AreOf key versions o

-- contracts see the same
pub record SeenAlike (o p : Orders) : Type 0 where
  pub keys : index_seen p.key_order ≡ index_seen o.key_order
  pub ends : p.ends.items ≡ o.ends.items
  pub indexes : map index_seen p.indexes.items ≡ map index_seen o.indexes.items
