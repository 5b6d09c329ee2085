-- The least version that its table may not have: of those that don't fit by themselves, of those in which NULL stands
-- where it may not, and of those that don't stand in order.
use Rattle.std.proofs.Common.{◌≡◌, ◌<◌, ◌+◌, refl, sym, ap, ap₂, subst, ◌∙◌, ℕ, Bool, true, false, cond, List, [], ◌∷◌, ◌++◌, length, map, filter, drop, get_or, Option}
use Rattle.std.proofs.lemmas.Cmp.{ranked}
use Rattle.std.proofs.lemmas.List.{map-append}
use Rattle.std.proofs.lemmas.List.Elements.{filter-append}
use Rattle.std.specs.Prelude.{◌&&◌, ◌||◌, not, option_map}
use Rattle.std.specs.Borrow.{Bor}
use Rattle.std.specs.List.{AllByRecursion}
use Rattle.std.specs.declared.cmp.Ordering.TheVariants.{Equal}
use Rattle.std.specs.Ordering.{nat_cmp}
use Rattle.sql_value.specs.declared.column.ColumnDef.{ColumnDef}
use Rattle.sql_types.specs.declared.entry.TxEntry.{TxEntry}
use Rattle.sql_types.specs.declared.image.TableRows.{TableRows}
use Rattle.sql_types.specs.declared.table.TableDef.{TableDef}
use Rattle.sql_types.specs.declared.version.Version.{Version}
use Rattle.format_image.specs.Tables.{table_in}
use Rattle.spec_model.specs.Lists.{sorted}
use Rattle.law_catalog_rows.specs.Least.{lesser, least_from}
use Rattle.spec_verify.proofs.ToldEntries.{table_event_total}
use Rattle.spec_verify.proofs.SystemRows.{then_equal as then_both}
use Rattle.spec_verify.specs.Entries.{TableEvent, table_event_cmp}
use Rattle.spec_rules.specs.Rows.{CatalogRows}
use Rattle.spec_verify.specs.Order.{before, latest, shares_key, is_in_order}
use Rattle.spec_verify.specs.Versions.{has_columns, respects_columns, with_columns, version_holds}
use Rattle.audit_definitions.proofs.Walks.{from_here}
use Rattle.audit_verify.specs.declared.order.EarlierVersions.{EarlierVersions}
use Rattle.audit_verify.specs.declared.order.VersionWithRanks.{VersionWithRanks}
use Rattle.audit_verify.specs.Order.{IsRanked, AreRanked, KnowsEarlier, version_of, ranked_cmp, is_ordered_after, is_ordered_among, is_right_among, keeps_rules, wrong_among}
use Rattle.audit_verify.specs.Versions.{faulty_versions, fits_alone, keeps, null_among, unfit_among}
use Rattle.audit_verify.proofs.InRuns.{last_is, last_sorted, ordered_among_is, ordered_among_sorted}
use Rattle.audit_rules.proofs.LeastParts.{in_parts, when_sorted}

same_number : (m n : ℕ) → nat_cmp m n ≡ Equal → m ≡ n
same_number m n e = ranked m n Equal (sym e)

pub same_event : (x y : TableEvent) → table_event_cmp x y ≡ Equal → x ≡ y
same_event x y e =
    let outer = then_both (nat_cmp x.0 y.0) _ e in
    let inner = then_both (nat_cmp x.1.0 y.1.0) (nat_cmp x.1.1 y.1.1) outer.1 in
    ap₂ (λ (t : ℕ) (p : ℕ × ℕ). (t, p)) (same_number x.0 y.0 outer.0) (ap₂ (λ (a b : ℕ). (a, b)) (same_number x.1.0 y.1.0 inner.0) (same_number x.1.1 y.1.1 inner.1))

pub append : (best : Option TableEvent) (xs ys : List TableEvent) → least_from table_event_cmp best (xs ++ ys) ≡ least_from table_event_cmp (least_from table_event_cmp best xs) ys
append best [] ys = refl
append best (x ∷ xs) ys = append (lesser table_event_cmp best x) xs ys

filter_twice : {A : Type 0} (p q : A → Bool) (xs : List A) → filter (λ x. p x && q x) xs ≡ filter q (filter p xs)
filter_twice p q [] = refl
filter_twice {A} p q (x ∷ xs) = here (p x) (filter_twice p q xs)
  where
    here : (b : Bool) → filter (λ y. p y && q y) xs ≡ filter q (filter p xs)
        → cond (b && q x) (x ∷ filter (λ y. p y && q y) xs) (filter (λ y. p y && q y) xs) ≡ filter q (cond b (x ∷ filter p xs) (filter p xs))
    here true more = ap (λ l. cond (q x) (x ∷ l) l) more
    here false more = more

three_tests : (h k a s o w : Bool) → not (((((h && k) && a) && s) && o) && w) ≡ ((not (h && a) || (h && not k)) || (h && not ((s && o) && w)))
three_tests true true true s o w = refl
three_tests true true false s o w = refl
three_tests true false true s o w = refl
three_tests true false false s o w = refl
three_tests false k a s o w = refl

module _ (entries : List TxEntry) (second : List Version) (changes : CatalogRows) (def : TableDef) (rows : TableRows) where
  abbrev all : List Version
  all = rows.base ++ rows.history

  abbrev fitting : List Version
  fitting = with_columns def.columns all

  abbrev start : Version → TableEvent
  start v = (def.id, v.start)

  abbrev unfit : Version → Bool
  unfit v = not (fits_alone def v)

  abbrev has_all : Version → Bool
  has_all v = has_columns def.columns v.values

  abbrev has_null : Version → Bool
  has_null v = not (respects_columns entries second def v)

  abbrev disordered : Version → Bool
  disordered v =
      not ((not (shares_key entries def.columns fitting v) && is_in_order entries def.columns fitting v)
      && keeps_rules entries changes def.id (latest entries (before entries def.columns fitting v)) v)

  abbrev least : Option TableEvent → List TableEvent → Option TableEvent
  least = least_from table_event_cmp

  holds_parts : (v : Version) → not (version_holds entries second (table_in def rows) v && keeps entries changes (table_in def rows) v) ≡ ((unfit v || (has_all v && has_null v)) || (has_all v && disordered v))
  holds_parts v = three_tests (has_columns def.columns v.values) _ _ _ _ _

  alone : (best : Option TableEvent) → least best (map start (filter unfit all)) ≡ least (least best (unfit_among def rows.base)) (unfit_among def rows.history)
  alone best =
      ap (least best) (ap (map start) (filter-append unfit rows.base rows.history) ∙ map-append start (filter unfit rows.base) (filter unfit rows.history))
      ∙ append best (unfit_among def rows.base) (unfit_among def rows.history)

  by_ranks : (found : List VersionWithRanks) → AllByRecursion (IsRanked entries) found → map version_of found ≡ fitting
      → (xs : List VersionWithRanks) → AllByRecursion (IsRanked entries) xs → map start (filter disordered (map version_of xs)) ≡ wrong_among entries changes def.id def.columns found xs
  by_ranks found ranks are [] a = refl
  by_ranks found ranks are (x ∷ xs) a =
      here (disordered (version_of x)) (not (is_right_among entries changes def.id def.columns found x))
      (ap (λ l. not ((not (shares_key entries def.columns l (version_of x)) && is_in_order entries def.columns l (version_of x)) && keeps_rules entries changes def.id (latest entries (before entries def.columns l (version_of x))) (version_of x))) (sym are)
      ∙ ap₂ (λ s t. not (s && keeps_rules entries changes def.id t (version_of x))) (ordered_among_is entries def.columns found x ranks a.0) (last_is entries def.columns found x ranks a.0))
      (by_ranks found ranks are xs a.1)
    where
      here : (b c : Bool) → b ≡ c → map start (filter disordered (map version_of xs)) ≡ wrong_among entries changes def.id def.columns found xs
          → map start (cond b (version_of x ∷ filter disordered (map version_of xs)) (filter disordered (map version_of xs)))
          ≡ map (λ (r : VersionWithRanks). (def.id, r.version.now.start)) (cond c (x ∷ filter (λ r. not (is_right_among entries changes def.id def.columns found r)) xs) (filter (λ r. not (is_right_among entries changes def.id def.columns found r)) xs))
      here b true e more = ap (λ t. map start (cond t (version_of x ∷ filter disordered (map version_of xs)) (filter disordered (map version_of xs)))) e ∙ ap (λ l. start (version_of x) ∷ l) more
      here b false e more = ap (λ t. map start (cond t (version_of x ∷ filter disordered (map version_of xs)) (filter disordered (map version_of xs)))) e ∙ more

  in_order : (found : List VersionWithRanks) (best : Option TableEvent)
      → least best (wrong_among entries changes def.id def.columns (sorted (ranked_cmp def.columns) found) (sorted (ranked_cmp def.columns) found)) ≡ least best (wrong_among entries changes def.id def.columns found found)
  in_order found best =
      let began : VersionWithRanks → TableEvent = λ (r : VersionWithRanks). (def.id, r.version.now.start) in
      ap (λ (p : VersionWithRanks → Bool). least best (map began (filter p (sorted (ranked_cmp def.columns) found)))) (λ i r. not (ordered_among_sorted def.columns found r i && keeps_rules entries changes def.id (last_sorted def.columns found r i) (version_of r)))
      ∙ when_sorted table_event_cmp table_event_total same_event began (ranked_cmp def.columns) (λ r. not (is_right_among entries changes def.id def.columns found r)) best found

  null_by : (xs : List VersionWithRanks) → map start (filter has_null (map version_of xs)) ≡ null_among entries second def xs
  null_by [] = refl
  null_by (x ∷ xs) = here (has_null (version_of x)) (null_by xs)
    where
      here : (b : Bool) → map start (filter has_null (map version_of xs)) ≡ null_among entries second def xs
          → map start (cond b (version_of x ∷ filter has_null (map version_of xs)) (filter has_null (map version_of xs)))
          ≡ map (λ (r : VersionWithRanks). (def.id, r.version.now.start)) (cond b (x ∷ filter (λ r. has_null (version_of r)) xs) (filter (λ r. has_null (version_of r)) xs))
      here true more = ap (λ l. start (version_of x) ∷ l) more
      here false more = more

  -- of those that have the columns
  null_of : (found : List VersionWithRanks) (best : Option TableEvent) → map version_of found ≡ fitting
      → least best (null_among entries second def found) ≡ least best (map start (filter (λ v. has_all v && has_null v) all))
  null_of found best are = ap (least best) (sym (null_by found) ∙ ap (λ l. map start (filter has_null l)) are ∙ ap (map start) (sym (filter_twice has_all has_null all)))

  -- first those that don't fit by themselves, in the base and in the history, then those with NULL where it may not
  -- be, then those out of order
  pub worst_of_table : (found ranked : List VersionWithRanks) (best in_base in_both with_null : Option TableEvent) → in_base ≡ least best (unfit_among def rows.base) → in_both ≡ least in_base (unfit_among def rows.history)
      → with_null ≡ least in_both (null_among entries second def found)
      → AreRanked entries def.columns fitting found → ranked ≡ sorted (ranked_cmp def.columns) found
      → least with_null (wrong_among entries changes def.id def.columns ranked ranked) ≡ least best (faulty_versions entries second changes (table_in def rows))
  worst_of_table found ranked best in_base in_both with_null base_is both_is null_is are order =
      let p = λ (v : Version). has_all v && has_null v in
      let q = λ (v : Version). has_all v && disordered v in
      ap (λ l. least with_null (wrong_among entries changes def.id def.columns l l)) order
      ∙ in_order found with_null
      ∙ ap (least with_null) (sym (by_ranks found are.ranks are.versions_are found are.ranks) ∙ ap (λ l. map start (filter disordered l)) are.versions_are
      ∙ ap (map start) (sym (filter_twice has_all disordered all)))
      ∙ ap (λ b. least b (map start (filter q all)))
      (null_is ∙ null_of found in_both are.versions_are
      ∙ ap (λ b. least b (map start (filter p all))) (both_is ∙ ap (λ b. least b (unfit_among def rows.history)) base_is ∙ sym (alone best)))
      ∙ sym (ap (λ (t : Version → Bool). least best (map start (filter t all))) (λ i v. holds_parts v i)
      ∙ in_parts table_event_cmp table_event_total same_event start (λ v. unfit v || p v) q best all
      ∙ ap (λ b. least b (map start (filter q all))) (in_parts table_event_cmp table_event_total same_event start unfit p best all))

-- ---- one by one

one_more : (p : VersionWithRanks → Bool) (f : VersionWithRanks → TableEvent) (best : Option TableEvent) (x : VersionWithRanks) (xs : List VersionWithRanks)
    → least_from table_event_cmp best (map f (filter (λ y. not (p y)) (x ∷ xs))) ≡ least_from table_event_cmp (cond (p x) best (lesser table_event_cmp best (f x))) (map f (filter (λ y. not (p y)) xs))
one_more p f best x xs = here (p x)
  where
    here : (b : Bool) → least_from table_event_cmp best (map f (cond (not b) (x ∷ filter (λ y. not (p y)) xs) (filter (λ y. not (p y)) xs)))
        ≡ least_from table_event_cmp (cond b best (lesser table_event_cmp best (f x))) (map f (filter (λ y. not (p y)) xs))
    here true = refl
    here false = refl

pub worst_next : (entries : List TxEntry) (changes : CatalogRows) (id table : ℕ) (columns : List ColumnDef) (all : List VersionWithRanks) (k : ℕ) (x : VersionWithRanks) (e : EarlierVersions) (best next least : Option TableEvent) → k < length all → x ≡ get_or all k x
    → table ≡ id
    → ((d : VersionWithRanks) → KnowsEarlier columns all (get_or all k d) e)
    → next ≡ cond (is_ordered_after x e.latest e.any_open && keeps_rules entries changes table (option_map (λ (v : Bor Version). v.now) e.last) (version_of x)) best (lesser table_event_cmp best (id, x.version.now.start))
    → least_from table_event_cmp best (wrong_among entries changes id columns all (drop k all)) ≡ least
    → least_from table_event_cmp next (wrong_among entries changes id columns all (drop (k + 1) all)) ≡ least
worst_next entries changes id table columns all k x e best next least within is table_is known next_is rest =
    let began : VersionWithRanks → TableEvent = λ (r : VersionWithRanks). (id, r.version.now.start) in
    let k_is = subst (λ (r : VersionWithRanks). KnowsEarlier columns all r e) (sym is) (known x) in
    let ordering_is : is_ordered_after x e.latest e.any_open ≡ is_ordered_among columns all x = ap₂ (is_ordered_after x) k_is.latest k_is.some_open in
    let keeping_is = ap₂ (λ (t : ℕ) o. keeps_rules entries changes t o (version_of x)) table_is k_is.last in
    let right_is = ap₂ (λ s t. s && t) ordering_is keeping_is in
    ap (λ b. least_from table_event_cmp b (wrong_among entries changes id columns all (drop (k + 1) all))) (next_is ∙ ap (λ t. cond t best (lesser table_event_cmp best (began x))) right_is)
    ∙ sym (ap (λ l. least_from table_event_cmp best (wrong_among entries changes id columns all l)) (from_here all k x within ∙ ap (λ (r : VersionWithRanks). r ∷ drop (k + 1) all) (sym is))
    ∙ one_more (is_right_among entries changes id columns all) began best x (drop (k + 1) all))
    ∙ rest
