-- The orders that are kept follow the versions.
use Rattle.std.proofs.Common.{◌≡◌, ◌-◌, ℕ, refl, sym, ap, ap₂, ◌∙◌, Bool, true, false, List, [], ◌∷◌, ◌++◌, map, None}
use Rattle.std.specs.Prelude.{if◌then◌else◌, is_none}
use Rattle.std.specs.List.{AllByRecursion}
use Rattle.std.specs.Ordering.{is_gt, ordering_then}
use Rattle.std.specs.declared.cmp.Ordering.{Ordering}
use Rattle.std.specs.declared.cmp.Ordering.TheVariants.{Less, Equal, Greater}
use Rattle.sql_value.specs.Order.{value_cmp}
use Rattle.sql_types.specs.declared.version.Version.{Version}
use Rattle.spec_model.specs.Lists.{inserted, sorted}
use Rattle.spec_model.specs.Rows.{Row, EventId, start_cmp, values_of, live}
use Rattle.spec_model.specs.Keys.{key_at, key_cmp, live_by_key_at, value_at}
use Rattle.spec_model.specs.Runs.{Rising}
use Rattle.law_frame.proofs.Alls.{all_filter, all_sorted}
use Rattle.store_table.specs.Orders.{column_values, key_values, row_cmp, in_order, starts_of}
use Rattle.store_table.specs.Stored as stored
use Rattle.store_table.specs.Stored.{Stored, projected, index_order, reordered, with_versions}
use Rattle.store_table.specs.Kept.{IsOf, IndexesAreOf, index_seen, ordinals_of}
use Rattle.store_table.specs.declared.index.Index.{Index}
use Rattle.store_table.specs.declared.orders.Orders.{Orders}

-- ---- a stable sort of versions that rise

then_behind : (o t : Ordering) → t ≡ Less → is_gt o ≡ is_gt (ordering_then o t)
then_behind Less t less = refl
then_behind Equal t less = ap is_gt (sym less)
then_behind Greater t less = refl

module _ (cmp : Version → Version → Ordering) where
  abbrev refined : Version → Version → Ordering
  refined v w = ordering_then (cmp v w) (start_cmp v w)

  inserted_then : (v : Version) (ws : List Version) → AllByRecursion (λ w. start_cmp v w ≡ Less) ws → inserted cmp v ws ≡ inserted refined v ws
  inserted_then v [] h = refl
  inserted_then v (w ∷ ws) h = rw (then_behind (cmp v w) (start_cmp v w) h.0) (ap (λ l. if is_gt (refined v w) then w ∷ l else v ∷ w ∷ ws) (inserted_then v ws h.1))

  pub sorted_then : (vs : List Version) → Rising vs → sorted cmp vs ≡ sorted refined vs
  sorted_then [] r = refl
  sorted_then (v ∷ vs) r =
      ap (inserted cmp v) (sorted_then vs r.1)
      ∙ inserted_then v (sorted refined vs) (all_sorted (λ w. start_cmp v w ≡ Less) refined vs r.0)

rising_live_by : (b : Bool) (v : Version) (vs : List Version) → AllByRecursion (λ w. start_cmp v w ≡ Less) (live vs) → Rising (live vs) → Rising (if b then v ∷ live vs else live vs)
rising_live_by true v vs h r = (h, r)
rising_live_by false v vs h r = r

pub rising_live : (vs : List Version) → Rising vs → Rising (live vs)
rising_live [] r = tt
rising_live (v ∷ vs) r = rising_live_by (is_none v.end) v vs (all_filter (λ w. start_cmp v w ≡ Less) (λ w. is_none w.end) vs r.0) (rising_live vs r.1)

-- ---- what contracts see

then_both : (o p q : Ordering) → ordering_then (ordering_then o p) q ≡ ordering_then o (ordering_then p q)
then_both Less p q = refl
then_both Equal p q = refl
then_both Greater p q = refl

-- lists of the same ordinals in front
cmp_both : (ns : List ℕ) (v w : Version) (a b : Row) → key_cmp (column_values ns v ++ a) (column_values ns w ++ b)
    ≡ ordering_then (key_cmp (column_values ns v) (column_values ns w)) (key_cmp a b)
unfolding key_cmp
cmp_both [] v w a b = refl
cmp_both (n ∷ ns) v w a b =
    let first : Ordering = value_cmp (value_at (values_of v) (n - 1)) (value_at (values_of w) (n - 1)) in
    ap (ordering_then first) (cmp_both ns v w a b) ∙ sym (then_both first (key_cmp (column_values ns v) (column_values ns w)) (key_cmp a b))

pub row_is : (key ordinals : List ℕ) (v w : Version) → key_cmp (projected key ordinals v) (projected key ordinals w) ≡ row_cmp ordinals key v w
unfolding key_at
row_is key ordinals v w = cmp_both ordinals v w (key_values key v) (key_values key w)

pub index_order_is : (key ordinals : List ℕ) (vs : List Version) → Rising vs → index_order key ordinals vs ≡ starts_of (in_order ordinals key vs)
index_order_is key ordinals vs r =
    ap starts_of ((λ i. sorted (λ v w. row_is key ordinals v w i) (live vs)) ∙ sorted_then (row_cmp ordinals key) (live vs) (rising_live vs r))

key_order_is : (key : List ℕ) (vs : List Version) → map (λ v. v.start) (live_by_key_at key None vs) ≡ index_order key [] vs
unfolding live_by_key_at
key_order_is key vs = refl

pub live_starts : (key : List ℕ) (vs : List Version) → Rising vs → map (λ v. v.start) (live_by_key_at key None vs) ≡ starts_of (in_order [] key vs)
live_starts key vs r = key_order_is key vs ∙ index_order_is key [] vs r

seen_each : (key : List ℕ) (vs : List Version) (is js : List Index) → Rising vs
    → AllByRecursion (IsOf key vs) is → ordinals_of is ≡ ordinals_of js → map index_seen is ≡ map (reordered key vs) (map index_seen js)
seen_each key vs [] [] r h same = refl
seen_each key vs [] (j ∷ js) r h same = cc
seen_each key vs (i ∷ is) [] r h same = cc
seen_each key vs (i ∷ is) (j ∷ js) r h same =
    let one : i.ordinals ≡ j.ordinals = cc in
    let rest : ordinals_of is ≡ ordinals_of js = cc in
    ap₂ (λ (o : List EventId) (l : List stored.Index). record { ordinals = i.ordinals; order = o } ∷ l) (h.0 ∙ sym (index_order_is key i.ordinals vs r)) (seen_each key vs is js r h.1 rest)
    ∙ ap (λ (ns : List ℕ). record { ordinals = ns; order = index_order key ns vs } ∷ map (reordered key vs) (map index_seen js)) one

-- a table's versions with the orders that follow them
pub seen_with : (key : List ℕ) (vs : List Version) (o p : Orders) (was : List Version) (order : List EventId) → Rising vs → IndexesAreOf key vs o
    → ordinals_of o.indexes.items ≡ ordinals_of p.indexes.items
    → (let s : Stored = record { key = key; versions = vs; order = o.key_order.order.list; indexes = map index_seen o.indexes.items } in
    let t : Stored = record { key = key; versions = was; order = order; indexes = map index_seen p.indexes.items } in s ≡ with_versions key vs t)
seen_with key vs o p was order r are same =
    ap₂ (λ (l : List EventId) (is : List stored.Index). record { key = key; versions = vs; order = l; indexes = is })
    (are.in_key_order ∙ ap (λ (ns : List ℕ). starts_of (in_order ns key vs)) are.no_ordinals ∙ sym (live_starts key vs r))
    (seen_each key vs o.indexes.items p.indexes.items r are.indexed same)

-- sorted by rows alone, the versions that stand are in order
pub rows_in_order : (ordinals key : List ℕ) (vs : List Version) → Rising vs → sorted (row_cmp ordinals key) (live vs) ≡ in_order ordinals key vs
rows_in_order ordinals key vs r = sorted_then (row_cmp ordinals key) (live vs) (rising_live vs r)

-- ---- one set of versions after another

reordered_twice : (key : List ℕ) (vs ws : List Version) (is : List stored.Index) → map (reordered key vs) (map (reordered key ws) is) ≡ map (reordered key vs) is
reordered_twice key vs ws [] = refl
reordered_twice key vs ws (i ∷ is) = ap (λ l. reordered key vs i ∷ l) (reordered_twice key vs ws is)

pub with_twice : (key : List ℕ) (vs ws : List Version) (s : Stored) → with_versions key vs (with_versions key ws s) ≡ with_versions key vs s
with_twice key vs ws s =
    ap (λ (l : List stored.Index). record { key = key; versions = vs; order = map (λ v. v.start) (live_by_key_at key None vs); indexes = l }) (reordered_twice key vs ws s.indexes)

-- t comes of s, and u of t
pub follows_on : (s t u : Stored) (vs : List Version) → t ≡ with_versions s.key t.versions s → u ≡ with_versions t.key vs t → u ≡ with_versions s.key u.versions s
follows_on s t u vs first next =
    let key : t.key ≡ s.key = ap (λ (x : Stored). x.key) first in
    let versions : u.versions ≡ vs = ap (λ (x : Stored). x.versions) next in
    next
    ∙ ap (λ (k : List ℕ). with_versions k vs t) key
    ∙ ap (with_versions s.key vs) first
    ∙ with_twice s.key vs t.versions s
    ∙ ap (λ (l : List Version). with_versions s.key l s) (sym versions)
