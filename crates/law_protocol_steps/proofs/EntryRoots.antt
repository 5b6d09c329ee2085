-- The roots of a transaction's trees are those of the entry that the ledger's definitions give it.
use Rattle.std.proofs.Common.{◌≡◌, ◌≢◌, ◌⊎◌, ℕ, suc, ◌+◌, ◌<◌, ◌≤◌, Bool, true, false, List, [], ◌∷◌, length, map, refl, sym, ap, ap₂, ◌∙◌, subst, inl, inr, ⊎_elim, arith}
use Rattle.std.proofs.lemmas.Bool.{cases_lt, cases_eq, eqb-true, ne_eqb, ltb-true}
use Rattle.std.specs.Prelude.{◌==◌, ◌&&◌, not, if◌then◌else◌, nat_lt}
use Rattle.std.specs.List.{filter}
use Rattle.std.specs.Ordering.{nat_cmp, is_gt}
use Rattle.std.specs.Cmp.{nat_cmp_is}
use Rattle.std.specs.declared.cmp.Ordering.TheVariants.{Less, Greater}
use Rattle.sql_types.specs.declared.event.Event.{Event}
use Rattle.sql_types.specs.declared.version.Table.{Table}
use Rattle.sql_types.specs.declared.version.Version.{Version}
use Rattle.spec_model.specs.Agreement.{IdsFrom}
use Rattle.spec_model.specs.Catalog.{Tables, defs_of, versions_of}
use Rattle.spec_model.specs.Events.{events_of, all_events}
use Rattle.spec_model.specs.Lists.{inserted, sorted}
use Rattle.law_frame.proofs.UndoneTables.{own_versions}
use Rattle.spec_protocol.specs.Leaf.{event_bytes}
use Rattle.base_merkle.specs.TreeHash.{tree_hash}
use Rattle.spec_protocol.specs.Entry.{rise_above, tables_rise}
use Rattle.spec_protocol.specs.Entries.{has_events, root_in, roots_of}
use Rattle.spec_protocol.proofs.Roots.{roots_rise}
use Rattle.spec_history.specs.Lists.{Text, Each, In}
use Rattle.spec_history.specs.Serial.{Differ}
use Rattle.spec_history.proofs.Trace.{each_weaker}
use Rattle.spec_protocol.specs.EventsIn.{events_in}
use Rattle.spec_protocol.specs.LedgerVisits.{is_empty, by_table, with_leaves, root_of_tree}
use Rattle.spec_protocol.specs.Seats.{Tree}
use Rattle.spec_protocol.specs.Server.{Server}
use Rattle.spec_protocol.specs.TreesAreOfEvents.{AreTrees}
use Rattle.law_protocol_steps.proofs.Ids.{each_in}

-- ---- roots that rise

abbrev Root : Type 0
Root = ℕ × Text

abbrev Rises : List Root → Type 0
Rises [] = Unit {0}
Rises (x ∷ xs) = Each (λ y. x.0 < y.0) xs × Rises xs

-- two that rise and have the same members are one
same_list : (xs ys : List Root) → Rises xs → Rises ys → ((z : Root) → In z xs → In z ys) → ((z : Root) → In z ys → In z xs) → xs ≡ ys
same_list [] [] a b f g = refl
same_list [] (y ∷ ys) a b f g = absurd (g y (inl refl))
same_list (x ∷ xs) [] a b f g = absurd (f x (inl refl))
same_list (x ∷ xs) (y ∷ ys) a b f g = ap₂ (λ (z : Root) (zs : List Root). z ∷ zs) head (same_list xs ys a.1 b.1 (λ z i. later_of z i) (λ z i. earlier_of z i))
  where
    above_x : (z : Root) → In z xs → x.0 < z.0
    above_x z i = each_in (λ (y : Root). x.0 < y.0) xs z a.0 i

    above_y : (z : Root) → In z ys → y.0 < z.0
    above_y z i = each_in (λ (x : Root). y.0 < x.0) ys z b.0 i

    head : x ≡ y
    head = ⊎_elim (λ (e : y ≡ x). sym e) (λ (i : In x ys). ⊎_elim (λ (e : x ≡ y). e) (λ (k : In y xs). absurd (omega (arith, above_y x i, above_x y k))) (g y (inl refl))) (f x (inl refl))

    same : x.0 ≡ y.0
    same = ap (λ (z : Root). z.0) head

    later_of : (z : Root) → In z xs → In z ys
    later_of z i = ⊎_elim (λ (e : y ≡ z). absurd (omega (arith, above_x z i, same, ap (λ (w : Root). w.0) e))) (λ k. k) (f z (inr i))

    earlier_of : (z : Root) → In z ys → In z xs
    earlier_of z i = ⊎_elim (λ (e : x ≡ z). absurd (omega (arith, above_y z i, same, ap (λ (w : Root). w.0) e))) (λ k. k) (g z (inr i))

both_true : (x y : Bool) → (x && y) ≡ true → (x ≡ true) × (y ≡ true)
both_true true y e = (refl, e)
both_true false y e = cc

rise_is : (last : ℕ) (xs : List Root) → rise_above last xs ≡ true → Each (λ y. last < y.0) xs × Rises xs
rise_is last [] e = (tt, tt)
rise_is last (r ∷ rs) e = let both = both_true (nat_lt last r.0) (rise_above r.0 rs) e in let l : last < r.0 = ltb-true last r.0 both.0 in let rest = rise_is r.0 rs both.1 in
    ((l, each_weaker (λ y. r.0 < y.0) (λ y. last < y.0) (λ y k. omega arith) rs rest.0), rest)

tables_are : (xs : List Root) → tables_rise xs ≡ true → Rises xs
tables_are [] e = tt
tables_are (r ∷ rs) e = rise_is r.0 rs e

-- ---- trees sorted by table

abbrev Sorted : List Tree → Type 0
Sorted [] = Unit {0}
Sorted (t ∷ ts) = Each (λ u. t.table < u.table) ts × Sorted ts

not_greater : (a b : ℕ) → is_gt (nat_cmp a b) ≡ false → b < a → ⊥
not_greater a b e l = let g : Greater ≡ nat_cmp a b = nat_cmp_is a b Greater l in let f : is_gt Greater ≡ false = ap is_gt g ∙ e in cc

not_less : (a b : ℕ) → is_gt (nat_cmp a b) ≡ true → a < b → ⊥
not_less a b e l = let g : Less ≡ nat_cmp a b = nat_cmp_is a b Less l in let f : is_gt Less ≡ true = ap is_gt g ∙ e in cc

each_inserted : (P : Tree → Type 0) (t : Tree) (us : List Tree) → P t → Each P us → Each P (inserted by_table t us)
each_inserted P t [] p e = (p, tt)
each_inserted P t (u ∷ us) p e = by (is_gt (by_table t u)) (each_inserted P t us p e.1)
  where
    by : (b : Bool) → Each P (inserted by_table t us) → Each P (if b then u ∷ inserted by_table t us else t ∷ u ∷ us)
    by true rest = (e.0, rest)
    by false rest = (p, e)

each_sorted : (P : Tree → Type 0) (ts : List Tree) → Each P ts → Each P (sorted by_table ts)
each_sorted P [] e = tt
each_sorted P (t ∷ ts) e = each_inserted P t (sorted by_table ts) e.0 (each_sorted P ts e.1)

below : (a b : ℕ) → a ≢ b → (a < b → ⊥) → b < a
below a b ne never = ⊎_elim (λ (l : a < b). absurd (never l)) (λ k. ⊎_elim (λ (m : b < a). m) (λ m. absurd (ne (omega (arith, k, m)))) (cases_lt b a)) (cases_lt a b)

insert : (t : Tree) (us : List Tree) → Sorted us → Each (λ u. t.table ≢ u.table) us → Sorted (inserted by_table t us)
insert t [] s ne = (tt, tt)
insert t (u ∷ us) s ne = by (is_gt (by_table t u)) refl (insert t us s.1 ne.1)
  where
    by : (b : Bool) → is_gt (by_table t u) ≡ b → Sorted (inserted by_table t us) → Sorted (if b then u ∷ inserted by_table t us else t ∷ u ∷ us)
    by true e rest = (each_inserted (λ w. u.table < w.table) t us (below t.table u.table ne.0 (not_less t.table u.table e)) s.0, rest)
    by false e rest = let l : t.table < u.table = below u.table t.table (λ f. ne.0 (sym f)) (not_greater t.table u.table e) in
        ((l, each_weaker (λ w. u.table < w.table) (λ w. t.table < w.table) (λ w k. omega arith) us s.0), s)

of_map : (n : ℕ) (ts : List Tree) → Each (λ k. n ≢ k) (map (λ t. t.table) ts) → Each (λ u. n ≢ u.table) ts
of_map n [] e = tt
of_map n (t ∷ ts) e = (e.0, of_map n ts e.1)

-- with a test
module _ (test : Tree → Bool) where
  each_kept : (P : Tree → Type 0) (ts : List Tree) → Each P ts → Each P (filter test ts)
  each_kept P [] e = tt
  each_kept P (t ∷ ts) e = by (test t) (each_kept P ts e.1)
    where
      by : (b : Bool) → Each P (filter test ts) → Each P (if b then t ∷ filter test ts else filter test ts)
      by true rest = (e.0, rest)
      by false rest = rest

  sorts : (ts : List Tree) → Differ (map (λ t. t.table) ts) → Sorted (sorted by_table (filter test ts))
  sorts [] d = tt
  sorts (t ∷ ts) d = by (test t) (sorts ts d.1)
    where
      by : (b : Bool) → Sorted (sorted by_table (filter test ts)) → Sorted (sorted by_table (if b then t ∷ filter test ts else filter test ts))
      by true rest = insert t (sorted by_table (filter test ts)) rest (each_sorted (λ u. t.table ≢ u.table) (filter test ts) (each_kept (λ u. t.table ≢ u.table) ts (of_map t.table ts d.0)))
      by false rest = rest

  kept_in : (t : Tree) (ts : List Tree) → test t ≡ true → In t ts → In t (filter test ts)
  kept_in t [] e i = absurd i
  kept_in t (u ∷ us) e i = by (test u) refl (λ k. kept_in t us e k)
    where
      by : (b : Bool) → test u ≡ b → (In t us → In t (filter test us)) → In t (if b then u ∷ filter test us else filter test us)
      by true f rest = ⊎_elim (λ (g : u ≡ t). inl g) (λ k. inr (rest k)) i
      by false f rest = ⊎_elim (λ (g : u ≡ t). absurd (let no : true ≡ false = sym e ∙ ap test (sym g) ∙ f in cc)) rest i

in_inserted : (t u : Tree) (us : List Tree) → (u ≡ t) ⊎ In t us → In t (inserted by_table u us)
in_inserted t u [] i = ⊎_elim (λ e. inl e) (λ (k : ⊥). absurd k) i
in_inserted t u (w ∷ us) i = by (is_gt (by_table u w)) (λ k. in_inserted t u us k)
  where
    by : (b : Bool) → ((u ≡ t) ⊎ In t us → In t (inserted by_table u us)) → In t (if b then w ∷ inserted by_table u us else u ∷ w ∷ us)
    by true rest = ⊎_elim (λ (e : u ≡ t). inr (rest (inl e))) (λ (k : In t (w ∷ us)). ⊎_elim (λ (e : w ≡ t). inl e) (λ k. inr (rest (inr k))) k) i
    by false rest = i

in_sorted : (t : Tree) (ts : List Tree) → In t ts → In t (sorted by_table ts)
in_sorted t [] i = absurd i
in_sorted t (u ∷ us) i = in_inserted t u (sorted by_table us) (⊎_elim (λ e. inl e) (λ k. inr (in_sorted t us k)) i)

-- ---- each tree with its table

find_tree : (trees : List Tree) (id : ℕ) → ((t : Tree) × In t trees × (t.table ≡ id)) ⊎ Each (λ t. t.table ≢ id) trees
find_tree [] id = inr tt
find_tree (t ∷ ts) id = ⊎_elim (λ (e : t.table ≡ id). inl (t, inl refl, e))
    (λ (ne : t.table ≢ id). ⊎_elim (λ (w : (u : Tree) × In u ts × (u.table ≡ id)). inl (w.0, inr w.1, w.2)) (λ k. inr (ne, k)) (find_tree ts id)) (cases_eq t.table id)

-- a table that has an event, or none has
pub record FoundTable (T : Tables) (id : ℕ) (vs : List Version) : Type 0 where
  pub table : Table
  pub has : In table T
  pub is : table.def.id ≡ id
  pub versions : vs ≡ table.versions

find_table : (T : Tables) (id : ℕ) → FoundTable T id (versions_of T id) ⊎ (versions_of T id ≡ [])
find_table [] id = inr refl
find_table (u ∷ us) id = by (u.def.id == id) refl (find_table us id)
  where
    by : (b : Bool) → (u.def.id == id) ≡ b → FoundTable us id (versions_of us id) ⊎ (versions_of us id ≡ [])
        → FoundTable (u ∷ us) id (if b then u.versions else versions_of us id) ⊎ ((if b then u.versions else versions_of us id) ≡ [])
    by true e rest = inl (record { table = u; has = inl refl; is = eqb-true u.def.id id e; versions = refl })
    by false e rest = ⊎_elim (λ (w : FoundTable us id (versions_of us id)). inl (record { table = w.table; has = inr w.has; is = w.is; versions = w.versions })) (λ k. inr k) rest

some_there : (xs : List Event) → xs ≢ [] → not (length xs == 0) ≡ true
some_there [] e = absurd (e refl)
some_there (x ∷ xs) e = ap not (ne_eqb (suc (length xs)) 0 (λ k. absurd (omega (arith, k))))

no_more : (xs : List Text) → not (is_empty xs) ≡ true → xs ≢ []
no_more [] e = cc
no_more (x ∷ xs) e = λ f. cc

some_leaf : (xs : List Text) → xs ≢ [] → not (is_empty xs) ≡ true
some_leaf [] e = absurd (e refl)
some_leaf (x ∷ xs) e = refl

in_tables : (tx : ℕ) (u : Table) (us : Tables) → has_events tx u ≡ true → In u us → In u (filter (has_events tx) us)
in_tables tx u [] e i = absurd i
in_tables tx u (w ∷ us) e i = by (has_events tx w) refl (λ k. in_tables tx u us e k)
  where
    by : (b : Bool) → has_events tx w ≡ b → (In u us → In u (filter (has_events tx) us)) → In u (if b then w ∷ filter (has_events tx) us else filter (has_events tx) us)
    by true f rest = ⊎_elim (λ (g : w ≡ u). inl g) (λ k. inr (rest k)) i
    by false f rest = ⊎_elim (λ (g : w ≡ u). absurd (let no : true ≡ false = sym e ∙ ap (has_events tx) (sym g) ∙ f in cc)) rest i

of_tables : (tx : ℕ) (P : Table → Type 0) (us : Tables) → Each P us → Each (λ u. P u × (has_events tx u ≡ true)) (filter (has_events tx) us)
of_tables tx P [] e = tt
of_tables tx P (w ∷ us) e = by (has_events tx w) refl (of_tables tx P us e.1)
  where
    by : (b : Bool) → has_events tx w ≡ b → Each (λ u. P u × (has_events tx u ≡ true)) (filter (has_events tx) us) → Each (λ u. P u × (has_events tx u ≡ true)) (if b then w ∷ filter (has_events tx) us else filter (has_events tx) us)
    by true f rest = ((e.0, f), rest)
    by false f rest = rest

-- what a map has is of something
of_mapped : {A : Type 0} (f : A → Root) (P : Root → Type 0) (xs : List A) → Each (λ x. P (f x)) xs → (z : Root) → In z (map f xs) → P z
of_mapped f P [] e z i = absurd i
of_mapped f P (x ∷ xs) e z i = ⊎_elim (λ (g : f x ≡ z). subst P g e.0) (λ k. of_mapped f P xs e.1 z k) i

in_mapped : {A : Type 0} (f : A → Root) (x : A) (xs : List A) → In x xs → In (f x) (map f xs)
in_mapped f x [] i = absurd i
in_mapped f x (y ∷ ys) i = ⊎_elim (λ (e : y ≡ x). inl (ap f e)) (λ k. inr (in_mapped f x ys k)) i

module _ (v : Server) (tx : ℕ) (left : Tables) (ids : IdsFrom 1 (defs_of left)) (some : all_events tx left ≢ []) (trees : List Tree) (are : AreTrees (λ id. events_in tx id (versions_of left id)) trees) where
  abbrev test : Tree → Bool
  test t = not (is_empty t.leaves)

  abbrev made : List Root
  made = map (root_of_tree v) (with_leaves trees)

  abbrev meant : List Root
  meant = map (root_in v.hash tx) (filter (has_events tx) left)

  -- ---- both rise

  mapped_rise : (ts : List Tree) → Sorted ts → Rises (map (root_of_tree v) ts)
  mapped_rise [] s = tt
  mapped_rise (t ∷ ts) s = (above_each ts s.0, mapped_rise ts s.1)
    where
      above_each : (us : List Tree) → Each (λ u. t.table < u.table) us → Each (λ y. t.table < y.0) (map (root_of_tree v) us)
      above_each [] e = tt
      above_each (u ∷ us) e = (e.0, above_each us e.1)

  made_rises : Rises made
  made_rises = mapped_rise (with_leaves trees) (sorts test trees are.differ)

  meant_rises : Rises meant
  unfolding roots_of
  meant_rises = tables_are meant (roots_rise v.hash tx left ids some)

  -- ---- and have the same members

  events_there : (u : Table) → versions_of left u.def.id ≡ u.versions → events_in tx u.def.id (versions_of left u.def.id) ≡ events_of tx u
  unfolding events_of
  events_there u e = ap (events_in tx u.def.id) e

  tree_is : (t : Tree) → In t trees → t.leaves ≡ map event_bytes (events_in tx t.table (versions_of left t.table))
  tree_is t i = each_in (λ t. t.leaves ≡ map event_bytes (events_in tx t.table (versions_of left t.table))) trees t are.leaves i

  made_is_meant : (t : Tree) → In t trees → test t ≡ true → In (root_of_tree v t) meant
  made_is_meant t i e = ⊎_elim
      (λ (w : FoundTable left t.table (versions_of left t.table)). let u = w.table in
      let own : versions_of left u.def.id ≡ u.versions = ap (versions_of left) w.is ∙ w.versions in
      let leaves : t.leaves ≡ map event_bytes (events_of tx u) = tree_is t i ∙ ap (λ (n : ℕ). map event_bytes (events_in tx n (versions_of left n))) (sym w.is) ∙ ap (map event_bytes) (events_there u own) in
      let has : has_events tx u ≡ true = some_there (events_of tx u) (λ f. no_more t.leaves e (leaves ∙ ap (map event_bytes) f)) in
      subst (λ (z : Root). In z meant) (ap₂ (λ (n : ℕ) (ls : List Text). (n, tree_hash v.hash ls)) w.is (sym leaves)) (in_mapped (root_in v.hash tx) u (filter (has_events tx) left) (in_tables tx u left has w.has)))
      (λ (none : versions_of left t.table ≡ []). absurd (no_more t.leaves e (tree_is t i ∙ ap (λ (vs : List Version). map event_bytes (events_in tx t.table vs)) none)))
      (find_table left t.table)

  meant_is_made : (u : Table) → 1 ≤ u.def.id → versions_of left u.def.id ≡ u.versions → has_events tx u ≡ true → In (root_in v.hash tx u) made
  meant_is_made u l own has = ⊎_elim
      (λ (w : (t : Tree) × In t trees × (t.table ≡ u.def.id)). let t = w.0 in
      let leaves : t.leaves ≡ map event_bytes (events_of tx u) = tree_is t w.1 ∙ ap (λ (n : ℕ). map event_bytes (events_in tx n (versions_of left n))) w.2 ∙ ap (map event_bytes) (events_there u own) in
      subst (λ (z : Root). In z made) (ap₂ (λ (n : ℕ) (ls : List Text). (n, tree_hash v.hash ls)) w.2 leaves)
      (in_mapped (root_of_tree v) t (with_leaves trees) (in_sorted t (filter test trees) (kept_in test t trees (some_leaf t.leaves (λ e. no_events (sym leaves ∙ e))) w.1))))
      (λ (none : Each (λ t. t.table ≢ u.def.id) trees). absurd (let e : events_of tx u ≡ [] = sym (events_there u own) ∙ are.others u.def.id l none in let f : has_events tx u ≡ false = ap (λ (es : List Event). not (length es == 0)) e in let no : true ≡ false = sym has ∙ f in cc))
      (find_tree trees u.def.id)
    where
      no_events : map event_bytes (events_of tx u) ≡ [] → ⊥
      no_events e = by_events (events_of tx u) has e
        where
          by_events : (es : List Event) → not (length es == 0) ≡ true → map event_bytes es ≡ [] → ⊥
          by_events [] h e = cc
          by_events (x ∷ xs) h e = cc

  ids_least : (n : ℕ) (T : Tables) → 1 ≤ n → IdsFrom n (defs_of T) → Each (λ u. 1 ≤ u.def.id) T
  ids_least n [] l h = tt
  ids_least n (t ∷ ts) l h = (omega (arith, h.0), ids_least (n + 1) ts (omega arith) h.1)

  pair : (P Q : Table → Type 0) (T : Tables) → Each P T → Each Q T → Each (λ u. P u × Q u) T
  pair P Q [] p q = tt
  pair P Q (t ∷ ts) p q = ((p.0, q.0), pair P Q ts p.1 q.1)

  kept_so : (ts : List Tree) → ((t : Tree) → In t ts → In t trees) → Each (λ t. In (root_of_tree v t) meant) (filter test ts)
  kept_so [] all = tt
  kept_so (t ∷ ts) all = by (test t) refl (kept_so ts (λ u i. all u (inr i)))
    where
      by : (b : Bool) → test t ≡ b → Each (λ t. In (root_of_tree v t) meant) (filter test ts) → Each (λ t. In (root_of_tree v t) meant) (if b then t ∷ filter test ts else filter test ts)
      by true e rest = (made_is_meant t (all t (inl refl)) e, rest)
      by false e rest = rest

  each_made : Each (λ t. In (root_of_tree v t) meant) (with_leaves trees)
  each_made = each_sorted (λ t. In (root_of_tree v t) meant) (filter test trees) (kept_so trees (λ t i. i))

  each_meant : Each (λ u. In (root_in v.hash tx u) made) (filter (has_events tx) left)
  each_meant = each_weaker (λ u. ((1 ≤ u.def.id) × (versions_of left u.def.id ≡ u.versions)) × (has_events tx u ≡ true)) (λ u. In (root_in v.hash tx u) made) (λ u e. meant_is_made u e.0.0 e.0.1 e.1) (filter (has_events tx) left)
      (of_tables tx (λ u. (1 ≤ u.def.id) × (versions_of left u.def.id ≡ u.versions)) left (pair (λ u. 1 ≤ u.def.id) (λ u. versions_of left u.def.id ≡ u.versions) left (ids_least 1 left (omega arith) ids) (own_versions 1 left ids)))

  pub same_roots : map (root_of_tree v) (with_leaves trees) ≡ roots_of v.hash tx left
  unfolding roots_of
  same_roots = same_list made meant made_rises meant_rises
      (of_mapped (root_of_tree v) (λ z. In z meant) (with_leaves trees) each_made)
      (of_mapped (root_in v.hash tx) (λ z. In z made) (filter (has_events tx) left) each_meant)
