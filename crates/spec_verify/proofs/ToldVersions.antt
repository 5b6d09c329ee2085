-- Versions: what is told of them.
use Rattle.std.proofs.Common.{◌≡◌, ◌≢◌, ◌≤◌, ◌<◌, ◌+◌, ℕ, zero, suc, arith, ◌∙◌, refl, sym, ap, subst, Bool, true, false, true≢false, List, [], ◌∷◌, ◌++◌, map, flat_map, Option, Some, None}
use Rattle.std.proofs.lemmas.Bool.{leb-true, leb-false}
use Rattle.std.proofs.lemmas.Bool.Decides.{Decides-and, Decides-at, Decides-like, not_from_Decides}
use Rattle.std.specs.Bool.{Decides}
use Rattle.std.specs.Cmp.{IsTotalOrder, on_total}
use Rattle.std.specs.Prelude.{◌&&◌, not, is_some, is_none, nat_le, if◌then◌else◌, slice_get, IfSome, MatchOption}
use Rattle.std.specs.List.{AllByRecursion, filter, list_any}
use Rattle.std.specs.Ordering.{is_gt, on}
use Rattle.std.specs.declared.cmp.Ordering.{Ordering}
use Rattle.sql_value.specs.declared.column.TableKind.{TableKind}
use Rattle.sql_value.specs.declared.column.TableKind.TheVariants.{AppendOnly, Updatable}
use Rattle.sql_types.specs.declared.image.Image.{Image}
use Rattle.sql_types.specs.declared.version.Table.{Table}
use Rattle.sql_types.specs.declared.version.TypedValue.{TypedValue}
use Rattle.sql_types.specs.declared.version.Version.{Version}
use Rattle.spec_model.specs.Checks.{is_append_only}
use Rattle.spec_model.specs.Rows.{EventId}
use Rattle.spec_model.specs.SystemTables.{columns_id}
use Rattle.format_image.specs.Tables.{tables_in}
use Rattle.law_catalog_rows.specs.Least.{lesser, least_from}
use Rattle.spec_verify.specs.declared.place.Place.{Place}
use Rattle.spec_verify.specs.declared.place.Place.TheVariants as at
use Rattle.spec_verify.specs.Entries.{TableEvent, table_event_cmp, event_place, least_event}
use Rattle.spec_verify.specs.Order.{is_before, latest, ends_before, ends_well, follows, shares_key}
use Rattle.spec_verify.specs.Sentences.{TableVersion, versions_of_image, start_of, earlier_of, column_of, ValueHolds, VersionHolds}
use Rattle.spec_verify.specs.Told.{HoldsOfEach, TellsLeast}
use Rattle.spec_verify.specs.Versions.{has_columns, respects_not_null, respects_from, respects_columns, rows_of_columns, says_not_null, takes, with_columns, version_holds, version_fault}
use Rattle.spec_verify.proofs.Deciding.{Decides-none}
use Rattle.spec_verify.proofs.Leasts.{Placed, least_told}
use Rattle.spec_verify.proofs.ToldEntries.{table_event_total}

-- ---- one version

itself : (b : Bool) → Decides b (b ≡ true)
itself b = (λ e. e, λ e. e)

no_end : (end : Option EventId) → Decides (is_none end) (end ≡ None)
no_end None = (λ e. refl, λ e. refl)
no_end (Some e) = (λ f. absurd (true≢false (sym f)), λ f. absurd (let g : Some e ≡ None = f in cc))

-- what need be so only where a table is append-only
decides_kind : (kind : TableKind) (end : Option EventId) → Decides (not (is_append_only kind && is_some end)) (kind ≡ AppendOnly → end ≡ None)
decides_kind AppendOnly None = (λ e k. refl, λ f. refl)
decides_kind AppendOnly (Some e) = (λ f. absurd (true≢false (sym f)), λ f. absurd (let g : Some e ≡ None = f refl in cc))
decides_kind Updatable end = (λ e k. absurd (let g : Updatable ≡ AppendOnly = k in cc), λ f. refl)

decides_key : (end : Option EventId) (before : List Version) → Decides (not (is_none end && list_any (λ (w : Version). is_none w.end) before)) (end ≡ None → AllByRecursion (λ (w : Version). w.end ≢ None) before)
decides_key None before = (λ e f. (none before).0 e, λ f. (none before).1 (f refl))
  where
    none : (ws : List Version) → Decides (not (list_any (λ (w : Version). is_none w.end) ws)) (AllByRecursion (λ (w : Version). w.end ≢ None) ws)
    none = Decides-none (λ (w : Version). is_none w.end) (λ w. w.end ≡ None) (λ w. no_end w.end)
decides_key (Some e) before = (λ f g. absurd (let k : Some e ≡ None = g in cc), λ f. refl)

-- ---- columns as of a start

decides_takes : (o : Option Version) (v : Option TypedValue) → Decides (takes o v) (MatchOption o (v ≡ None) (λ r. says_not_null r ≡ true → v ≢ None))
decides_takes None None = (λ e. refl, λ e. refl)
decides_takes None (Some t) = (λ f. absurd (true≢false (sym f)), λ f. absurd (let g : Some t ≡ None = f in cc))
decides_takes (Some r) (Some t) = (λ e f g. (let k : Some t ≡ None = g in cc), λ f. refl)
decides_takes (Some r) None = here (says_not_null r)
  where
    none : Option TypedValue
    none = None

    here : (b : Bool) → Decides (not b) (b ≡ true → none ≢ None)
    here true = (λ e. absurd (true≢false (sym e)), λ f. absurd (f refl refl))
    here false = (λ e f. absurd (true≢false (sym f)), λ f. refl)

each_of : {A : Type 0} (P : ℕ → A → Type 0) (x : A) (xs : List A) → P 0 x → ((k : ℕ) → IfSome (slice_get xs k) (P (suc k))) → HoldsOfEach P (x ∷ xs)
each_of P x xs p h zero = p
each_of P x xs p h (suc k) = h k

moved : {A : Type 0} (P : ℕ → A → Type 0) (n : ℕ) (xs : List A) → HoldsOfEach (λ k. P (k + (n + 1))) xs → (k : ℕ) → IfSome (slice_get xs k) (P (suc k + n))
moved {A} P n xs h k = let e : k + (n + 1) ≡ suc k + n = omega arith in subst (λ (m : ℕ). IfSome (slice_get xs k) (P m)) e (h k)

back : {A : Type 0} (P : ℕ → A → Type 0) (n : ℕ) (x : A) (xs : List A) → HoldsOfEach (λ k. P (k + n)) (x ∷ xs) → HoldsOfEach (λ k. P (k + (n + 1))) xs
back {A} P n x xs h k = let e : suc k + n ≡ k + (n + 1) = omega arith in subst (λ (m : ℕ). IfSome (slice_get xs k) (P m)) e (h (suc k))

by_id : {P Q : Type 0} (id : ℕ) (a b : Bool) → Decides a P → Decides b Q → Decides (if nat_le id columns_id then a else b) ((id ≤ columns_id → P) × (columns_id < id → Q))
by_id {P} {Q} id a b d e = here (nat_le id columns_id) refl
  where
    here : (t : Bool) → nat_le id columns_id ≡ t → Decides (if t then a else b) ((id ≤ columns_id → P) × (columns_id < id → Q))
    here true is =
        let le : id ≤ columns_id = leb-true id columns_id is in
        (λ f. ((λ k. d.0 f), (λ lt. absurd (omega (arith, le, lt)))), λ h. d.1 (h.0 le))
    here false is =
        let lt : columns_id < id = leb-false id columns_id is in
        (λ f. ((λ le. absurd (omega (arith, le, lt))), (λ k. e.0 f)), λ h. e.1 (h.1 lt))

module _ (i : Image) where
  decides_end : (v : Version) (end : Option EventId) → Decides (ends_well i.entries v end) (IfSome end (λ e. is_before i.entries v.start e ≡ true))
  decides_end v None = (λ e. tt, λ f. refl)
  decides_end v (Some e) = itself (is_before i.entries v.start e)

  decides_follow : (v : Version) (w : Option Version) → Decides (follows i.entries v w) (IfSome w (λ w. ends_before i.entries w.end v.start ≡ true))
  decides_follow v None = (λ e. tt, λ f. refl)
  decides_follow v (Some w) = itself (ends_before i.entries w.end v.start)

  decides_values : (x : TableVersion) (n : ℕ) (vs : List (Option TypedValue))
      → Decides (respects_from i.entries (rows_of_columns i.tables) x.0.def.id n x.1.start vs) (HoldsOfEach (λ k. ValueHolds i x (k + n)) vs)
  decides_values x n [] = (λ e k. tt, λ h. refl)
  decides_values x n (v ∷ vs) =
      Decides-like (takes (column_of i x n) v && respects_from i.entries (rows_of_columns i.tables) x.0.def.id (n + 1) x.1.start vs)
      (λ p. each_of (λ k. ValueHolds i x (k + n)) v vs (subst (λ (m : ℕ). ValueHolds i x m v) {x = n} {y = 0 + n} (omega arith) p.0) (moved (λ k. ValueHolds i x k) n vs p.1))
      (λ h. (subst (λ (m : ℕ). ValueHolds i x m v) {x = 0 + n} {y = n} (omega arith) (h 0), back (λ k. ValueHolds i x k) n v vs h))
      (Decides-and (takes (column_of i x n) v) (respects_from i.entries (rows_of_columns i.tables) x.0.def.id (n + 1) x.1.start vs)
      (decides_takes (column_of i x n) v) (decides_values x (n + 1) vs))

  decides_columns : (x : TableVersion) → Decides (respects_columns i.entries (rows_of_columns i.tables) x.0.def x.1)
      ((x.0.def.id ≤ columns_id → respects_not_null x.0.def.columns x.1.values ≡ true) × (columns_id < x.0.def.id → HoldsOfEach (λ k. ValueHolds i x (k + 1)) x.1.values))
  decides_columns x =
      by_id x.0.def.id (respects_not_null x.0.def.columns x.1.values) (respects_from i.entries (rows_of_columns i.tables) x.0.def.id 1 x.1.start x.1.values)
      (itself (respects_not_null x.0.def.columns x.1.values)) (decides_values x 1 x.1.values)

  decides_version : (x : TableVersion) → Decides (version_holds i.entries (rows_of_columns i.tables) x.0 x.1) (VersionHolds i x)
  decides_version x =
      let cs = x.0.def.columns in
      let v = x.1 in
      let among : List Version = with_columns cs x.0.versions in
      let columns : Bool = has_columns cs v.values in
      let nulls : Bool = respects_columns i.entries (rows_of_columns i.tables) x.0.def v in
      let kind : Bool = not (is_append_only x.0.def.kind && is_some v.end) in
      let key : Bool = not (shares_key i.entries cs among v) in
      let ends : Bool = ends_well i.entries v v.end in
      let after : Bool = follows i.entries v (latest i.entries (earlier_of i x)) in
      Decides-like (version_holds i.entries (rows_of_columns i.tables) x.0 x.1)
      (λ p. record { columns = p.0.0.0.0; nulls = p.0.0.0.1.0; nulls_then = p.0.0.0.1.1; append_only = p.0.0.1; key = p.0.1; ends = p.1.0; follows = p.1.1 })
      (λ k. ((((k.columns, (k.nulls, k.nulls_then)), k.append_only), k.key), (k.ends, k.follows)))
      (Decides-and (columns && nulls && kind && key) (ends && after)
      (Decides-and (columns && nulls && kind) key
      (Decides-and (columns && nulls) kind (Decides-and columns nulls (itself columns) (decides_columns x)) (decides_kind x.0.def.kind v.end))
      (decides_key v.end (earlier_of i x)))
      (Decides-and ends after (decides_end v v.end) (decides_follow v (latest i.entries (earlier_of i x)))))

-- ---- the least

module _ {A B : Type 0} (f : A → B) (cmp : B → B → Ordering) where
  abbrev through : Option A → Option B
  through None = None
  through (Some x) = Some (f x)

  lesser_through : (best : Option A) (x : A) → lesser cmp (through best) (f x) ≡ through (lesser (on f cmp) best x)
  lesser_through None x = refl
  lesser_through (Some best) x = here (is_gt (cmp (f best) (f x))) refl
    where
      here : (g : Bool) → is_gt (cmp (f best) (f x)) ≡ g → lesser cmp (Some (f best)) (f x) ≡ through (lesser (on f cmp) (Some best) x)
      here true e = rw e refl
      here false e = rw e refl

  least_through : (best : Option A) (xs : List A) → least_from cmp (through best) (map f xs) ≡ through (least_from (on f cmp) best xs)
  least_through best [] = refl
  least_through best (x ∷ xs) = ap (λ b. least_from cmp b (map f xs)) (lesser_through best x) ∙ least_through (lesser (on f cmp) best x) xs

abbrev start_place : Option TableVersion → Option Place
start_place x = event_place (through start_of table_event_cmp x)

not_twice : (b : Bool) → not (not b) ≡ b
not_twice true = refl
not_twice false = refl

-- the versions for which a test fails, in all tables
module _ (is_bad : TableVersion → Bool) where
  abbrev bad_starts : Table → List TableEvent
  bad_starts t = map (λ (v : Version). (t.def.id, v.start)) (filter (λ v. is_bad (t, v)) t.versions)

  with_table : (t : Table) (vs : List Version)
      → map (λ (v : Version). (t.def.id, v.start)) (filter (λ v. is_bad (t, v)) vs) ≡ map start_of (filter is_bad (map (λ v. (t, v)) vs))
  with_table t [] = refl
  with_table t (v ∷ vs) = here (is_bad (t, v)) refl (with_table t vs)
    where
      here : (b : Bool) → is_bad (t, v) ≡ b
          → map (λ (v : Version). (t.def.id, v.start)) (filter (λ v. is_bad (t, v)) vs) ≡ map start_of (filter is_bad (map (λ v. (t, v)) vs))
          → map (λ (v : Version). (t.def.id, v.start)) (filter (λ v. is_bad (t, v)) (v ∷ vs)) ≡ map start_of (filter is_bad (map (λ v. (t, v)) (v ∷ vs)))
      here true e r = rw e (ap (λ more. (t.def.id, v.start) ∷ more) r)
      here false e r = rw e r

  append_bad : (xs ys : List TableVersion) → map start_of (filter is_bad (xs ++ ys)) ≡ map start_of (filter is_bad xs) ++ map start_of (filter is_bad ys)
  append_bad [] ys = refl
  append_bad (x ∷ xs) ys = here (is_bad x) refl (append_bad xs ys)
    where
      here : (b : Bool) → is_bad x ≡ b → map start_of (filter is_bad (xs ++ ys)) ≡ map start_of (filter is_bad xs) ++ map start_of (filter is_bad ys)
          → map start_of (filter is_bad ((x ∷ xs) ++ ys)) ≡ map start_of (filter is_bad (x ∷ xs)) ++ map start_of (filter is_bad ys)
      here true e r = rw e (ap (λ more. start_of x ∷ more) r)
      here false e r = rw e r

  all_tables : (ts : List Table) → flat_map bad_starts ts ≡ map start_of (filter is_bad (flat_map (λ (t : Table). map (λ v. (t, v)) t.versions) ts))
  all_tables [] = refl
  all_tables (t ∷ ts) =
      ap (λ more. bad_starts t ++ more) (all_tables ts)
      ∙ ap (λ front. front ++ map start_of (filter is_bad (flat_map (λ (t : Table). map (λ v. (t, v)) t.versions) ts))) (with_table t t.versions)
      ∙ sym (append_bad (map (λ v. (t, v)) t.versions) (flat_map (λ (t : Table). map (λ v. (t, v)) t.versions) ts))

  places_of_starts : Placed (λ (x : TableVersion) (p : Place). p ≡ at.Event x.0.def.id x.1.start.0 x.1.start.1) start_place
  places_of_starts = record { none = refl; at = λ x. at.Event x.0.def.id x.1.start.0 x.1.start.1; some = λ x. refl; says = λ x. refl }

  start_total : IsTotalOrder (on start_of table_event_cmp)
  start_total = on_total start_of table_event_total

  -- where the test decides a sentence, the start of the least version is told of which it fails
  pub starts_told : (Holds : TableVersion → Type 0) → ((x : TableVersion) → Decides (not (is_bad x)) (Holds x)) → (ts : List Table)
      → TellsLeast (on start_of table_event_cmp) Holds (λ x p. p ≡ at.Event x.0.def.id x.1.start.0 x.1.start.1) (flat_map (λ (t : Table). map (λ v. (t, v)) t.versions) ts) (least_event (flat_map bad_starts ts))
  starts_told Holds decides ts =
      let all : List TableVersion = flat_map (λ (t : Table). map (λ v. (t, v)) t.versions) ts in
      subst (λ p. TellsLeast (on start_of table_event_cmp) Holds (λ x p. p ≡ at.Event x.0.def.id x.1.start.0 x.1.start.1) all p)
      (sym (ap least_event (all_tables ts) ∙ ap event_place (least_through start_of table_event_cmp None (filter is_bad all))))
      (least_told (on start_of table_event_cmp) start_total Holds is_bad
      (λ x is. (decides x).0 (ap not is))
      (λ x is. not_from_Decides (not (is_bad x)) (decides x) (ap not is))
      (λ x p. p ≡ at.Event x.0.def.id x.1.start.0 x.1.start.1) start_place all places_of_starts)

module _ (i : Image) where
  pub versions_told : TellsLeast (on start_of table_event_cmp) (VersionHolds i) (λ x p. p ≡ at.Event x.0.def.id x.1.start.0 x.1.start.1) (versions_of_image i) (version_fault i)
  unfolding version_fault
  versions_told =
      let holds : TableVersion → Bool = λ x. version_holds i.entries (rows_of_columns i.tables) x.0 x.1 in
      starts_told (λ x. not (holds x)) (VersionHolds i) (λ x. Decides-at (not (not (holds x))) (holds x) (not_twice (holds x)) (decides_version i x)) (tables_in i)
