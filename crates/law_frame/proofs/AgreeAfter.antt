-- Two states that agree on a want still agree on it after the same changes of both.
use Rattle.std.proofs.Common.{◌≡◌, ℕ, ◌+◌, refl, sym, ap, subst, ◌∙◌, Bool, true, false, List, [], ◌∷◌, map, Option, Some, None}
use Rattle.std.proofs.lemmas.Bool.{eqb-true, eq-eqb}
use Rattle.std.specs.Prelude.{◌==◌, ◌&&◌, ◌||◌, if◌then◌else◌}
use Rattle.std.specs.List.{AllByRecursion, filter, list_any}
use Rattle.std.specs.declared.cmp.Ordering.{Ordering}
use Rattle.std.specs.declared.cmp.Ordering.TheVariants.{Less, Equal, Greater}
use Rattle.std.specs.Ordering.{is_gt}
use Rattle.sql_value.specs.declared.column.ColumnDef.{ColumnDef}
use Rattle.sql_types.specs.declared.lock.Mode.{Mode}
use Rattle.sql_types.specs.declared.lock.Mode.TheVariants.{IS, IX, S, X}
use Rattle.sql_types.specs.declared.lock.Item.{Item}
use Rattle.sql_types.specs.declared.lock.Item.TheVariants as item
use Rattle.sql_types.specs.declared.table.TableDef.{TableDef}
use Rattle.sql_types.specs.declared.version.Table.{Table}
use Rattle.sql_types.specs.declared.version.Version.{Version}
use Rattle.spec_model.specs.Lists.{inserted}
use Rattle.spec_model.specs.Rows.{EventId, same_event, start_cmp, started, with_end, ended}
use Rattle.spec_model.specs.Keys.{Key, same_key, version_key, of_key}
use Rattle.spec_model.specs.Changes.{Change, Starts, Ends, changed}
use Rattle.spec_model.specs.Catalog.{Defs, Tables, defs_of, versions_of, with_versions, changed_table}
use Rattle.spec_model.specs.SystemTables.{tables_id, columns_id}
use Rattle.spec_model.specs.Locks.{CellRequests}
use Rattle.spec_model.specs.ChangeSets.{TableChange, changed_in, changed_from}
use Rattle.spec_model.specs.Agreement.{AgreeIn, AgreeOn, AgreeOnAll, AgreeInCell, AgreeInCatalog, SameCatalog, columns_at, LockRequests, AgreeFor}
use Rattle.spec_model.specs.Runs.{Rising, Sound}
use Rattle.law_frame.proofs.Alls.{all_weaker, all_filter}
use Rattle.law_frame.proofs.ChangeSets.{same_def}
use Rattle.law_frame.proofs.Definitions.{same_defs}
use Rattle.law_frame.proofs.AtTable.{rising_at}
use Rattle.law_frame.proofs.Sounds.{start_total, sound_changed}
use Rattle.law_frame.proofs.UndoneVersions.{filter_inserted}

-- ---- the versions of one key

not_greater : (v w u : Version) (o : Ordering) → start_cmp v w ≡ o → is_gt o ≡ false → start_cmp w u ≡ Less → is_gt (start_cmp v u) ≡ false
not_greater v w u Less e h l = ap is_gt (start_total.trans v w u e l)
not_greater v w u Equal e h l = ap is_gt (start_total.congr v w u e ∙ l)
not_greater v w u Greater e h l = cc

comes_first : (v : Version) (ws : List Version) → AllByRecursion (λ u. is_gt (start_cmp v u) ≡ false) ws → inserted start_cmp v ws ≡ v ∷ ws
comes_first v [] h = refl
comes_first v (w ∷ ws) h = rw (h.0) refl

module _ (test : Version → Bool) where
  beside : (b c : Bool) (v w : Version) (ws us : List Version) → is_gt (start_cmp v w) ≡ b → test w ≡ c → test v ≡ true → filter test us ≡ inserted start_cmp v (filter test ws)
      → (b ≡ false → AllByRecursion (λ u. is_gt (start_cmp v u) ≡ false) (filter test ws))
      → filter test (if b then w ∷ us else v ∷ w ∷ ws) ≡ inserted start_cmp v (if c then w ∷ filter test ws else filter test ws)
  beside true true v w ws us e f h i k = rw (f, e, i) refl
  beside true false v w ws us e f h i k = rw (f, i) refl
  beside false true v w ws us e f h i k = rw (h, f, e) refl
  beside false false v w ws us e f h i k = rw (h, f) (sym (comes_first v (filter test ws) (k refl)))

  start_among : (v : Version) (vs : List Version) → test v ≡ true → Rising vs → filter test (inserted start_cmp v vs) ≡ inserted start_cmp v (filter test vs)
  start_among v [] h r = rw h refl
  start_among v (w ∷ ws) h r =
      beside (is_gt (start_cmp v w)) (test w) v w ws (inserted start_cmp v ws) refl refl h (start_among v ws h r.1)
      (λ e. all_filter (λ u. is_gt (start_cmp v u) ≡ false) test ws (all_weaker (λ u. start_cmp w u ≡ Less) (λ u. is_gt (start_cmp v u) ≡ false) (λ u l. not_greater v w u (start_cmp v w) refl e l) ws r.0))

  start_same : (b : Bool) (v : Version) (V W : List Version) → test v ≡ b → Rising V → Rising W → filter test V ≡ filter test W → filter test (inserted start_cmp v V) ≡ filter test (inserted start_cmp v W)
  start_same true v V W h r q e = start_among v V h r ∙ ap (inserted start_cmp v) e ∙ sym (start_among v W h q)
  start_same false v V W h r q e = filter_inserted test start_cmp v V h ∙ e ∙ sym (filter_inserted test start_cmp v W h)

module _ (columns : List ColumnDef) (key : Key) where
  ends_one : (at : EventId) (v : Version) (b : Bool) (c : Bool) (us vs : List Version) → same_key (version_key columns v) key ≡ c → us ≡ vs
      → (let w : Version = if b then with_end at v else v in (if same_key (version_key columns w) key then w ∷ us else us) ≡ (if c then w ∷ vs else vs))
  ends_one at v true c us vs h e = rw (h, e) refl
  ends_one at v false c us vs h e = rw (h, e) refl

  end_among : (at start : EventId) (vs : List Version) → of_key columns key (ended at start vs) ≡ ended at start (of_key columns key vs)
  unfolding ended
  end_among at start [] = refl
  end_among at start (v ∷ vs) =
      ends_one at v (same_event v.start start) (same_key (version_key columns v) key) _ _ refl (end_among at start vs)
      ∙ under (same_key (version_key columns v) key)
    where
      end_it : Version → Version
      end_it w = if same_event w.start start then with_end at w else w

      under : (c : Bool) → (if c then end_it v ∷ map end_it (of_key columns key vs) else map end_it (of_key columns key vs)) ≡ map end_it (if c then v ∷ of_key columns key vs else of_key columns key vs)
      under true = refl
      under false = refl

  pub key_after : (at : EventId) (c : Change) (V W : List Version) → Rising V → Rising W → of_key columns key V ≡ of_key columns key W → of_key columns key (changed at c V) ≡ of_key columns key (changed at c W)
  unfolding started
  key_after at (Starts values) V W r q e = start_same (λ v. same_key (version_key columns v) key) _ (record { values = values; start = at; end = None }) V W refl r q e
  key_after at (Ends start) V W r q e = end_among at start V ∙ ap (ended at start) e ∙ sym (end_among at start W)

-- ---- a table

unfoldable pub has_table : Defs → ℕ → Bool
has_table defs id = list_any (λ d. d.id == id) defs

mirror : (a b : ℕ) → (a == b) ≡ (b == a)
mirror a b = here (a == b) (b == a) refl refl
  where
    here : (p q : Bool) → (a == b) ≡ p → (b == a) ≡ q → p ≡ q
    here true true e f = refl
    here true false e f = sym (eq-eqb b a (sym (eqb-true a b e))) ∙ f
    here false true e f = sym e ∙ eq-eqb a b (sym (eqb-true b a f))
    here false false e f = refl

absent : (b : Bool) (f : List Version → List Version) → let vs : List Version = if b && false then f [] else [] in [] ≡ vs
absent true f = refl
absent false f = refl

present : (d : Bool) (f : List Version → List Version) (t : Table) → let u : Table = if d then with_versions f t else t in u.versions ≡ (if d && true then f t.versions else t.versions)
present true f t = refl
present false f t = refl

at_head : (i id : ℕ) (f : List Version → List Version) (t : Table) (rest vs : List Version) (any b : Bool) → (t.def.id == id) ≡ b → rest ≡ (if i == id && any then f vs else vs)
    → (let u : Table = if t.def.id == i then with_versions f t else t in (if b then u.versions else rest) ≡ (if i == id && (b || any) then f (if b then t.versions else vs) else (if b then t.versions else vs)))
at_head i id f t rest vs any true e h =
    let same : (t.def.id == i) ≡ (i == id) = ap (λ (n : ℕ). n == i) (eqb-true t.def.id id e) ∙ mirror id i in
    ap (λ (c : Bool). (λ (u : Table). u.versions) (if c then with_versions f t else t)) same ∙ present (i == id) f t
at_head i id f t rest vs any false e h = h

-- the versions of a table, after those of one with the id i have changed
pub exact_at : (i id : ℕ) (f : List Version → List Version) (T : Tables) → versions_of (changed_table i f T) id ≡ (if i == id && has_table (defs_of T) id then f (versions_of T id) else versions_of T id)
unfolding has_table
exact_at i id f [] = absent (i == id) f
exact_at i id f (t ∷ ts) =
    ap (λ (def : TableDef). if def.id == id then (λ (u : Table). u.versions) (if t.def.id == i then with_versions f t else t) else versions_of (changed_table i f ts) id) (same_def (t.def.id == i) f t)
    ∙ at_head i id f t (versions_of (changed_table i f ts) id) (versions_of ts id) (has_table (defs_of ts) id) (t.def.id == id) refl (exact_at i id f ts)

module _ (T U : Tables) (defs : defs_of T ≡ defs_of U) where
  -- what holds of the versions of a table in both states holds after the same change of both
  module _ (P : List Version → List Version → Type 0) (f : List Version → List Version) (i id : ℕ) where
    by_branch : (b : Bool) → P (versions_of T id) (versions_of U id) → P (f (versions_of T id)) (f (versions_of U id))
        → P (if b then f (versions_of T id) else versions_of T id) (if b then f (versions_of U id) else versions_of U id)
    by_branch true h k = k
    by_branch false h k = h

    pub both_at : P (versions_of T id) (versions_of U id) → P (f (versions_of T id)) (f (versions_of U id)) → P (versions_of (changed_table i f T) id) (versions_of (changed_table i f U) id)
    both_at h k =
        subst (λ (vs : List Version). P vs (versions_of (changed_table i f U) id)) (sym (exact_at i id f T))
        (subst (λ (ws : List Version). P (if i == id && has_table (defs_of T) id then f (versions_of T id) else versions_of T id) ws)
        (ap (λ (ds : Defs). if i == id && has_table ds id then f (versions_of U id) else versions_of U id) defs ∙ sym (exact_at i id f U))
        (by_branch (i == id && has_table (defs_of T) id) h k))

  same_versions : (f : List Version → List Version) (i id : ℕ) → versions_of T id ≡ versions_of U id → versions_of (changed_table i f T) id ≡ versions_of (changed_table i f U) id
  same_versions f i id e = both_at (λ vs ws. vs ≡ ws) f i id e (ap f e)

  module _ (tx seq : ℕ) (sound : Sound tx seq T) (sound_too : Sound tx seq U) (c : TableChange) where
    -- ---- wants

    abbrev f : List Version → List Version
    f = changed (tx, seq) c.1

    item_after : (columns : List ColumnDef) (id : ℕ) (m : Mode) (x : Item) → AgreeIn columns m x (versions_of T id) (versions_of U id)
        → AgreeIn columns m x (versions_of (changed_in (tx, seq) c T) id) (versions_of (changed_in (tx, seq) c U) id)
    item_after columns id IS x h = tt
    item_after columns id IX x h = tt
    item_after columns id S item.Whole h = same_versions f c.0 id h
    item_after columns id X item.Whole h = same_versions f c.0 id h
    item_after columns id S (item.Key key) h = both_at (λ vs ws. of_key columns key vs ≡ of_key columns key ws) f c.0 id h (key_after columns key (tx, seq) c.1 (versions_of T id) (versions_of U id) (rising_at tx seq id T sound.each) (rising_at tx seq id U sound_too.each) h)
    item_after columns id X (item.Key key) h = both_at (λ vs ws. of_key columns key vs ≡ of_key columns key ws) f c.0 id h (key_after columns key (tx, seq) c.1 (versions_of T id) (versions_of U id) (rising_at tx seq id T sound.each) (rising_at tx seq id U sound_too.each) h)

    cell_after : (cell : CellRequests) → AgreeInCell cell T U → AgreeInCell cell (changed_in (tx, seq) c T) (changed_in (tx, seq) c U)
    cell_after None h = tt
    cell_after (Some x) h =
        subst (λ (ds : Defs). AgreeOnAll (columns_at ds x.0) x.1 (versions_of (changed_in (tx, seq) c T) x.0) (versions_of (changed_in (tx, seq) c U) x.0)) (sym (same_defs c.0 f T))
        (all_weaker (AgreeOn (columns_at (defs_of T) x.0) (versions_of T x.0) (versions_of U x.0))
        (AgreeOn (columns_at (defs_of T) x.0) (versions_of (changed_in (tx, seq) c T) x.0) (versions_of (changed_in (tx, seq) c U) x.0))
        (λ w. item_after (columns_at (defs_of T) x.0) x.0 w.mode w.item) x.1 h)

    shared : SameCatalog T U → SameCatalog (changed_in (tx, seq) c T) (changed_in (tx, seq) c U)
    shared h = record {
      definitions = same_defs c.0 f T ∙ h.definitions ∙ sym (same_defs c.0 f U);
      tables = same_versions f c.0 tables_id h.tables;
      columns = same_versions f c.0 columns_id h.columns;
    }

    catalog_after : (m : Option Mode) → AgreeInCatalog m T U → AgreeInCatalog m (changed_in (tx, seq) c T) (changed_in (tx, seq) c U)
    catalog_after None h = tt
    catalog_after (Some IS) h = tt
    catalog_after (Some IX) h = tt
    catalog_after (Some S) h = shared h
    catalog_after (Some X) h = shared h

    pub one_after : (w : LockRequests) → AgreeFor T U w → AgreeFor (changed_in (tx, seq) c T) (changed_in (tx, seq) c U) w
    one_after w h = record { catalog = catalog_after w.catalog h.catalog; cell = cell_after w.cell h.cell }

-- after all changes
pub agree_after : (tx seq : ℕ) (cs : List TableChange) (T U : Tables) → defs_of T ≡ defs_of U → Sound tx seq T → Sound tx seq U → (ws : List LockRequests) → AllByRecursion (AgreeFor T U) ws
    → AllByRecursion (AgreeFor (changed_from tx seq cs T) (changed_from tx seq cs U)) ws
agree_after tx seq [] T U d s t ws h = h
agree_after tx seq (c ∷ cs) T U d s t ws h =
    agree_after tx (seq + 1) cs (changed_in (tx, seq) c T) (changed_in (tx, seq) c U)
    (same_defs c.0 (changed (tx, seq) c.1) T ∙ d ∙ sym (same_defs c.0 (changed (tx, seq) c.1) U))
    (sound_changed tx seq c T s) (sound_changed tx seq c U t) ws
    (all_weaker (AgreeFor T U) (AgreeFor (changed_in (tx, seq) c T) (changed_in (tx, seq) c U)) (one_after T U d tx seq s t c) ws h)
