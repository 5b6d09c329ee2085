-- Events that are sorted by transaction, table and number: those of a transaction are, table by table, its
-- events there by number.
use Rattle.std.proofs.Common.{◌≡◌, ◌<◌, ◌==◌, ℕ, Bool, false, cond, List, [], ◌∷◌, ◌++◌, filter, flat_map, refl, ap, ap₂, ◌∙◌, arith, Option, Some, None}
use Rattle.std.specs.List.{AllByRecursion}
use Rattle.std.specs.Ordering.{nat_cmp, ordering_then, is_gt}
use Rattle.std.specs.declared.cmp.Ordering.{Ordering}
use Rattle.std.specs.declared.cmp.Ordering.TheVariants.{Less, Equal, Greater}
use Rattle.std.proofs.lemmas.Bool.{cond_both, eqb-true, lt-ltb, le-ltb, eq-eqb}
use Rattle.sql_types.specs.declared.event.Event.{Event}
use Rattle.sql_types.specs.declared.version.Table.{Table}
use Rattle.sql_types.specs.declared.version.Version.{Version}
use Rattle.spec_model.specs.Catalog.{Tables}
use Rattle.spec_model.specs.Events.{end_events, version_events, events_of}
use Rattle.spec_model.specs.Lists.{sorted}
use Rattle.spec_model.specs.Rows.{EventId}
use Rattle.audit_roots.specs.Marks.{leaf_cmp, events_in}
use Rattle.audit_roots.specs.ImageTable.{IdsRise}
use Rattle.audit_roots.proofs.LeafOrder.{leaf_total}
use Rattle.audit_columns.proofs.Sortings.{IsBelow, filter_sorted, sorted_parts, sorted_agree}
use Rattle.audit_definitions.proofs.Walks.{filter_parts}

equal_to_itself : (m : ℕ) → nat_cmp m m ≡ Equal
equal_to_itself m =
    ap (λ (b : Bool). cond b Less (cond (m == m) Equal Greater)) (le-ltb m m (omega arith))
    ∙ ap (λ (b : Bool). cond b Equal Greater) (eq-eqb m m refl)

abbrev by_seq : Event → Event → Ordering
by_seq a b = nat_cmp a.seq b.seq

pub append_all : {A : Type 0} (P : A → Type 0) (xs ys : List A) → AllByRecursion P xs → AllByRecursion P ys → AllByRecursion P (xs ++ ys)
append_all P [] ys a b = b
append_all P (x ∷ xs) ys a b = (a.0, append_all P xs ys a.1 b)

pub map_all : {A : Type 0} (P Q : A → Type 0) → ((x : A) → P x → Q x) → (xs : List A) → AllByRecursion P xs → AllByRecursion Q xs
map_all P Q f [] a = tt
map_all P Q f (x ∷ xs) a = (f x a.0, map_all P Q f xs a.1)

-- ---- the events of a table are of it

ends_of_table : (id : ℕ) (v : Version) (end : Option EventId) → AllByRecursion (λ (e : Event). e.table ≡ id) (end_events id v end)
ends_of_table id v None = tt
ends_of_table id v (Some end) = (refl, tt)

of_versions : (id : ℕ) (vs : List Version) → AllByRecursion (λ (e : Event). e.table ≡ id) (flat_map (version_events id) vs)
of_versions id [] = tt
of_versions id (v ∷ vs) = append_all (λ (e : Event). e.table ≡ id) (version_events id v) (flat_map (version_events id) vs) (refl, ends_of_table id v v.end) (of_versions id vs)

module _ (tx : ℕ) where
  abbrev is_own : Event → Bool
  is_own e = e.tx == tx

  abbrev IsIn : ℕ → Event → Type 0
  IsIn id e = (e.tx ≡ tx) × (e.table ≡ id)

  abbrev IsLater : ℕ → Event → Type 0
  IsLater id e = (e.tx ≡ tx) × (id < e.table)

  kept : (id : ℕ) (es : List Event) → AllByRecursion (λ (e : Event). e.table ≡ id) es → AllByRecursion (IsIn id) (filter is_own es)
  kept id [] all = tt
  kept id (e ∷ es) all = cond_both (is_own e) (e ∷ filter is_own es) (filter is_own es) (AllByRecursion (IsIn id))
      (λ is. ((eqb-true e.tx tx is, all.0), kept id es all.1)) (λ other. kept id es all.1)

  abbrev own_in : Table → List Event
  own_in t = filter is_own (events_in t)

  pub all_in : (t : Table) → AllByRecursion (IsIn t.def.id) (own_in t)
  all_in t = kept t.def.id (events_in t) (of_versions t.def.id t.versions)

  later : (last : ℕ) (ts : Tables) → IdsRise last ts → AllByRecursion (IsLater last) (flat_map own_in ts)
  later last [] rise = tt
  later last (t ∷ ts) rise =
      append_all (IsLater last) (own_in t) (flat_map own_in ts)
      (map_all (IsIn t.def.id) (IsLater last) (λ e is. (is.0, omega (arith, is.1, rise.0))) (own_in t) (all_in t))
      (map_all (IsLater t.def.id) (IsLater last) (λ e is. (is.0, omega (arith, is.1, rise.0))) (flat_map own_in ts) (later t.def.id ts rise.1))

  not_above : (id : ℕ) (a b : Event) → IsIn id a → IsLater id b → is_gt (leaf_cmp a b) ≡ false
  not_above id a b here there =
      let same : nat_cmp a.tx b.tx ≡ Equal = ap₂ nat_cmp here.0 there.0 ∙ equal_to_itself tx in
      let less : nat_cmp a.table b.table ≡ Less =
      ap (λ (c : Bool). cond c Less (cond (a.table == b.table) Equal Greater)) (lt-ltb a.table b.table (omega (arith, here.1, there.1))) in
      ap (λ (o : Ordering). is_gt (ordering_then (ordering_then o (nat_cmp a.table b.table)) (by_seq a b))) same
      ∙ ap (λ (o : Ordering). is_gt (ordering_then o (by_seq a b))) less

  below : (id : ℕ) (xs ys : List Event) → AllByRecursion (IsIn id) xs → AllByRecursion (IsLater id) ys → AllByRecursion (IsBelow leaf_cmp ys) xs
  below id [] ys a b = tt
  below id (x ∷ xs) ys a b = (map_all (IsLater id) (λ y. is_gt (leaf_cmp x y) ≡ false) (λ y there. not_above id x y a.0 there) ys b, below id xs ys a.1 b)

  in_one : (id : ℕ) (a b : Event) → IsIn id a → IsIn id b → leaf_cmp a b ≡ by_seq a b
  in_one id a b here there =
      ap (λ (o : Ordering). ordering_then (ordering_then o (nat_cmp a.table b.table)) (by_seq a b)) (ap₂ nat_cmp here.0 there.0 ∙ equal_to_itself tx)
      ∙ ap (λ (o : Ordering). ordering_then o (by_seq a b)) (ap₂ nat_cmp here.1 there.1 ∙ equal_to_itself id)

  by_table : (last : ℕ) (ts : Tables) → IdsRise last ts → sorted leaf_cmp (flat_map own_in ts) ≡ flat_map (λ t. sorted by_seq (own_in t)) ts
  by_table last [] rise = refl
  by_table last (t ∷ ts) rise =
      sorted_parts leaf_cmp (own_in t) (flat_map own_in ts) (below t.def.id (own_in t) (flat_map own_in ts) (all_in t) (later t.def.id ts rise.1))
      ∙ ap₂ (λ (xs ys : List Event). xs ++ ys) (sorted_agree leaf_cmp by_seq (IsIn t.def.id) (in_one t.def.id) (own_in t) (all_in t)) (by_table t.def.id ts rise.1)

  by_number : (ts : Tables) → flat_map (λ t. sorted by_seq (own_in t)) ts ≡ flat_map (events_of tx) ts
  unfolding events_of
  by_number [] = refl
  by_number (t ∷ ts) = ap (λ (l : List Event). sorted by_seq (own_in t) ++ l) (by_number ts)

  -- those of the transaction, of all that are sorted, are its events of each table in turn, by number
  pub run_is : (last : ℕ) (ts : Tables) → IdsRise last ts → filter is_own (sorted leaf_cmp (flat_map events_in ts)) ≡ flat_map (events_of tx) ts
  run_is last ts rise =
      filter_sorted leaf_cmp leaf_total is_own (flat_map events_in ts) ∙ ap (sorted leaf_cmp) (filter_parts is_own events_in ts)
      ∙ by_table last ts rise ∙ by_number ts
