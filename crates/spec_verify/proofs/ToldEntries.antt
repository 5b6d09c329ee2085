-- Entries and their events: what is told of them.
use Rattle.std.proofs.Common.{◌≡◌, ◌≢◌, ◌<◌, ◌≤◌, ◌+◌, ◌⊎◌, ◌∙◌, inl, inr, ℕ, zero, suc, refl, sym, ap, subst, arith, Bool, true, false, true≢false, List, [], ◌∷◌, ◌++◌, length, map, Option, Some, None}
use Rattle.std.proofs.lemmas.Bool.Decides.{Decides-and, Decides-like, Decides-eqb, not_from_Decides, nat_tests}
use Rattle.std.proofs.lemmas.Slice.Eq.{bytes_eq-Decides}
use Rattle.std.specs.Bool.{Decides}
use Rattle.std.specs.Cmp.{IsTotalOrder, then_total, on_total, nat_cmp_total}
use Rattle.std.specs.Prelude.{◌&&◌, ◌==◌, not, nat_lt, if◌then◌else◌, take, MatchOption}
use Rattle.std.specs.List.{AllByRecursion, filter, list_all, range_with_len}
use Rattle.std.specs.Ordering.{nat_cmp}
use Rattle.std.specs.Str.{bytes_eq}
use Rattle.std.specs.declared.cmp.Ordering.TheVariants.{Greater}
use Rattle.sql_types.specs.declared.entry.TxEntry.{TxEntry}
use Rattle.sql_types.specs.declared.image.Image.{Image}
use Rattle.spec_model.specs.Lists.{or_else}
use Rattle.format_image.specs.Entries.{roots_of}
use Rattle.format_image.specs.Tables.{tables_in}
use Rattle.law_catalog_rows.specs.Least.{least}
use Rattle.spec_verify.specs.declared.place.Place.{Place}
use Rattle.spec_verify.specs.declared.place.Place.TheVariants as at
use Rattle.spec_verify.specs.Entries.{TableEvent, TableRoot, has_id, table_event_cmp, event_place, least_event, strangers, repeated_id, are_numbered, root_at, same_root, other_roots, root_place, entry_fault, root_fault}
use Rattle.spec_verify.specs.First.{unless}
use Rattle.spec_verify.specs.Sentences.{IsNewId, HasEntry, events_of_image, AreNumbered, numbers_of, RootHolds, EntryHolds, IsEntryFault}
use Rattle.spec_verify.specs.Told.{TellsFirst, TellsLeast}
use Rattle.spec_verify.proofs.Deciding.{not_true, not_false, unless_told, Decides-none, Decides-any}
use Rattle.spec_verify.proofs.Firsts.{first_told}
use Rattle.spec_verify.proofs.Leasts.{Placed, least_told}

-- ---- ids

decides_new : (entries : List TxEntry) (k : ℕ) (e : TxEntry) → Decides (not (has_id (take k entries) e.id)) (IsNewId entries k e)
decides_new entries k e = Decides-none (λ (o : TxEntry). o.id == e.id) (λ o. o.id ≡ e.id) (λ o. Decides-eqb o.id e.id) (take k entries)

pub ids_told : (i : Image) → TellsFirst (IsNewId i.entries) (λ k e p. p ≡ at.Entry k) i.entries (repeated_id i)
ids_told i =
    first_told (λ k (e : TxEntry). unless (not (has_id (take k i.entries) e.id)) (at.Entry k)) (IsNewId i.entries) (λ k e p. p ≡ at.Entry k)
    (λ k e. unless_told (not (has_id (take k i.entries) e.id)) (at.Entry k) (decides_new i.entries k e)) i.entries

-- ---- events

pub table_event_total : IsTotalOrder table_event_cmp
table_event_total = then_total (on_total (λ (e : TableEvent). e.0) nat_cmp_total) (on_total (λ (e : TableEvent). e.1) (then_total (on_total (λ (a : ℕ × ℕ). a.0) nat_cmp_total) (on_total (λ (a : ℕ × ℕ). a.1) nat_cmp_total)))

has_entry : (entries : List TxEntry) (event : TableEvent) → Decides (has_id entries event.1.0) (HasEntry entries event)
has_entry entries event = Decides-any (λ (e : TxEntry). e.id == event.1.0) (λ e. e.id ≡ event.1.0) (λ e. Decides-eqb e.id event.1.0) entries

pub places_of_events : Placed (λ (e : TableEvent) (p : Place). p ≡ at.Event e.0 e.1.0 e.1.1) event_place
places_of_events = record { none = refl; at = λ e. at.Event e.0 e.1.0 e.1.1; some = λ e. refl; says = λ e. refl }

pub events_told : (i : Image) → TellsLeast table_event_cmp (HasEntry i.entries) (λ e p. p ≡ at.Event e.0 e.1.0 e.1.1) (events_of_image i) (least_event (strangers i))
events_told i =
    least_told table_event_cmp table_event_total (HasEntry i.entries) (λ (e : TableEvent). not (has_id i.entries e.1.0))
    (λ e is. (has_entry i.entries e).0 (not_true (has_id i.entries e.1.0) is))
    (λ e is. not_from_Decides (has_id i.entries e.1.0) (has_entry i.entries e) (not_false (has_id i.entries e.1.0) is))
    (λ e p. p ≡ at.Event e.0 e.1.0 e.1.1) event_place (events_of_image i) places_of_events

-- ---- numbers

decides_range : (test : ℕ → Bool) (P : ℕ → Type 0) → ((n : ℕ) → Decides (test n) (P n)) → (low count : ℕ)
    → Decides (list_all test (range_with_len low count)) ((n : ℕ) → low ≤ n → n < low + count → P n)
decides_range test P each low zero = (λ e n le lt. absurd (omega (arith, le, lt)), λ h. refl)
decides_range test P each low (suc count) =
    Decides-like (test low && list_all test (range_with_len (low + 1) count)) there back
    (Decides-and (test low) (list_all test (range_with_len (low + 1) count)) (each low) (decides_range test P each (low + 1) count))
  where
    there : P low × ((n : ℕ) → low + 1 ≤ n → n < (low + 1) + count → P n) → (n : ℕ) → low ≤ n → n < low + suc count → P n
    there h n le lt = here (n == low) (Decides-eqb n low)
      where
        here : (b : Bool) → Decides b (n ≡ low) → P n
        here true d = subst P (sym (d.0 refl)) h.0
        here false d = let other : n ≢ low = not_from_Decides false d refl in h.1 n (omega (arith, le, other)) (omega (arith, lt))

    back : ((n : ℕ) → low ≤ n → n < low + suc count → P n) → P low × ((n : ℕ) → low + 1 ≤ n → n < (low + 1) + count → P n)
    back h = (h low (omega arith) (omega arith), λ n le lt. h n (omega (arith, le)) (omega (arith, lt)))

decides_numbered : (ns : List ℕ) → Decides (are_numbered ns) (AreNumbered ns)
decides_numbered ns =
    Decides-like (are_numbered ns) (λ h n lt. h n (omega arith) (omega (arith, lt))) (λ h n le lt. h n (omega (arith, lt)))
    (decides_range (λ n. length (filter (λ m. m == n) ns) == 1) (λ n. length (filter (λ m. m == n) ns) ≡ 1) (λ n. Decides-eqb (length (filter (λ m. m == n) ns)) 1) 0 (length ns))

-- ---- roots

some_same : {A : Type 0} (a b : A) → Some a ≡ Some b → a ≡ b
some_same a b e = cc

decides_same : (a b : Option (List ℕ)) → Decides (same_root a b) (a ≡ b)
decides_same None None = (λ e. refl, λ e. refl)
decides_same None (Some b) = (λ e. absurd (true≢false (sym e)), λ e. absurd (let f : None ≡ Some b = e in cc))
decides_same (Some a) None = (λ e. absurd (true≢false (sym e)), λ e. absurd (let f : Some a ≡ None = e in cc))
decides_same (Some a) (Some b) = Decides-like (bytes_eq a b) (λ e. ap (λ (x : List ℕ). Some x) e) (λ e. some_same a b e) (bytes_eq-Decides a b)

module _ (a b : List TableRoot) where
  abbrev SameAt : ℕ → Type 0
  SameAt t = root_at a t ≡ root_at b t

  abbrev other_at : ℕ → Bool
  other_at t = not (same_root (root_at a t) (root_at b t))

  abbrev tables_of_both : List ℕ
  tables_of_both = map (λ (r : TableRoot). r.0) a ++ map (λ (r : TableRoot). r.0) b

  no_root : (rs : List TableRoot) (t : ℕ) → AllByRecursion (λ u. u ≡ t → ⊥) (map (λ (r : TableRoot). r.0) rs) → root_at rs t ≡ None
  no_root [] t h = refl
  no_root (r ∷ rs) t h = here (r.0 == t) (Decides-eqb r.0 t) h.0 (no_root rs t h.1)
    where
      here : (c : Bool) → Decides c (r.0 ≡ t) → (r.0 ≡ t → ⊥) → root_at rs t ≡ None → (if c then Some r.1 else root_at rs t) ≡ None
      here true d other e = absurd (other (d.0 refl))
      here false d other e = e

  front_of : (P : ℕ → Type 0) (xs ys : List ℕ) → AllByRecursion P (xs ++ ys) → AllByRecursion P xs
  front_of P [] ys h = tt
  front_of P (x ∷ xs) ys h = (h.0, front_of P xs ys h.1)

  rest_of : (P : ℕ → Type 0) (xs ys : List ℕ) → AllByRecursion P (xs ++ ys) → AllByRecursion P ys
  rest_of P [] ys h = h
  rest_of P (x ∷ xs) ys h = rest_of P xs ys h.1

  -- a table that neither names, or one that some does
  by_table : (P : ℕ → Type 0) (t : ℕ) (xs : List ℕ) → AllByRecursion P xs → P t ⊎ AllByRecursion (λ u. u ≡ t → ⊥) xs
  by_table P t [] h = inr tt
  by_table P t (x ∷ xs) h = here (x == t) (Decides-eqb x t) (by_table P t xs h.1)
    where
      here : (c : Bool) → Decides c (x ≡ t) → P t ⊎ AllByRecursion (λ u. u ≡ t → ⊥) xs → P t ⊎ AllByRecursion (λ u. u ≡ t → ⊥) (x ∷ xs)
      here true d r = inl (subst P (d.0 refl) h.0)
      here false d (inl p) = inl p
      here false d (inr n) = inr (not_from_Decides false d refl, n)

  neither : (t : ℕ) → AllByRecursion (λ u. u ≡ t → ⊥) tables_of_both → SameAt t
  neither t h =
      let xs : List ℕ = map (λ (r : TableRoot). r.0) a in
      let ys : List ℕ = map (λ (r : TableRoot). r.0) b in
      no_root a t (front_of (λ u. u ≡ t → ⊥) xs ys h) ∙ sym (no_root b t (rest_of (λ u. u ≡ t → ⊥) xs ys h))

  -- what holds of all tables that either names, and where neither has a root, holds of all
  of_all : (P : ℕ → Type 0) → ((t : ℕ) → SameAt t → P t) → AllByRecursion P tables_of_both → (t : ℕ) → P t
  of_all P same h t = here (by_table P t tables_of_both h)
    where
      here : P t ⊎ AllByRecursion (λ u. u ≡ t → ⊥) tables_of_both → P t
      here (inl p) = p
      here (inr n) = same t (neither t n)

  abbrev Named : Option ℕ → Type 0
  Named found = MatchOption found ((t : ℕ) → SameAt t) (λ t. (SameAt t → ⊥) × ((u : ℕ) → u < t → SameAt u))

  greater : (t u : ℕ) → u < t → nat_cmp t u ≡ Greater
  greater t u lt =
      let no : nat_lt t u ≡ false = grind (arith, nat_tests, lt) in
      let other : (t == u) ≡ false = grind (arith, nat_tests, lt) in
      rw (no, other) refl

  pub least_other : Named (least nat_cmp (other_roots a b))
  least_other = here (least nat_cmp (other_roots a b))
      (least_told nat_cmp nat_cmp_total SameAt other_at
      (λ t is. (decides_same (root_at a t) (root_at b t)).0 (not_true (same_root (root_at a t) (root_at b t)) is))
      (λ t is. not_from_Decides (same_root (root_at a t) (root_at b t)) (decides_same (root_at a t) (root_at b t)) (not_false (same_root (root_at a t) (root_at b t)) is))
      (λ t u. u ≡ t) (λ found. found) tables_of_both (record { none = refl; at = λ t. t; some = λ t. refl; says = λ t. refl }))
    where
      here : (found : Option ℕ) → TellsLeast nat_cmp SameAt (λ t u. u ≡ t) tables_of_both found → Named found
      here None h = of_all SameAt (λ t s. s) h
      here (Some t) h =
          let named : Named (Some h.0) = (h.1.fails, λ u lt. of_all (λ v. v < h.0 → SameAt v) (λ v s l. s) (weaker h.0 tables_of_both h.1.less) u lt) in
          subst (λ v. Named (Some v)) (sym h.2) named
        where
          weaker : (m : ℕ) (xs : List ℕ) → AllByRecursion (λ y. nat_cmp m y ≡ Greater → SameAt y) xs → AllByRecursion (λ v. v < m → SameAt v) xs
          weaker m [] k = tt
          weaker m (x ∷ xs) k = (λ lt. k.0 (greater m x lt), weaker m xs k.1)

-- ---- an entry

module _ (h : List ℕ → List ℕ) (i : Image) where
  pub entry_told : (e : TxEntry) → MatchOption (entry_fault h i e) (EntryHolds h i e) (λ p. (EntryHolds h i e → ⊥) × IsEntryFault h i e p)
  entry_told e = here (are_numbered ns) (decides_numbered ns) (least nat_cmp (other_roots e.roots roots)) (least_other e.roots roots)
    where
      ns : List ℕ
      ns = numbers_of i e.id

      roots : List TableRoot
      roots = roots_of h e.id (tables_in i)

      here : (b : Bool) → Decides b (AreNumbered ns) → (found : Option ℕ) → MatchOption found ((t : ℕ) → RootHolds h i e t) (λ t. (RootHolds h i e t → ⊥) × ((u : ℕ) → u < t → RootHolds h i e u))
          → MatchOption (or_else (unless b (at.Numbers e.id)) (root_place e.id found)) (EntryHolds h i e) (λ p. (EntryHolds h i e → ⊥) × IsEntryFault h i e p)
      here false d found n = (λ k. not_from_Decides false d refl k.numbers, inl (not_from_Decides false d refl, refl))
      here true d None n = record { numbers = d.0 refl; roots = n }
      here true d (Some t) n = (λ k. n.0 (k.roots t), inr (d.0 refl, (t, n.0, n.1, refl)))

  pub entries_told : TellsFirst (λ k e. EntryHolds h i e) (λ k e p. IsEntryFault h i e p) i.entries (root_fault h i)
  unfolding root_fault
  entries_told = first_told (λ k e. entry_fault h i e) (λ k e. EntryHolds h i e) (λ k e p. IsEntryFault h i e p) (λ k e. entry_told e) i.entries
