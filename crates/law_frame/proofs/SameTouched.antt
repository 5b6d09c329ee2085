-- Over two states that agree on all that it wants, a statement starts and ends the same versions.
use Rattle.std.proofs.Common.{◌≡◌, ℕ, refl, sym, ap, ◌∙◌, subst, ⊎_elim, Bool, true, false, List, [], ◌∷◌, Option, Some, None, eqb-true, ◌<◌, arith}
use Rattle.std.proofs.lemmas.Bool.{ne_eqb, or_cases}
use Rattle.std.specs.Prelude.{◌==◌, if◌then◌else◌}
use Rattle.std.specs.List.{AllByRecursion, filter, list_any}
use Rattle.std.specs.declared.cmp.Ordering.TheVariants.{Less}
use Rattle.sql_value.specs.declared.column.ColumnDef.{ColumnDef}
use Rattle.sql_types.specs.declared.lock.Mode.{Mode}
use Rattle.sql_types.specs.declared.lock.Mode.TheVariants.{IS, IX, S, X}
use Rattle.sql_types.specs.declared.lock.Item.{Item}
use Rattle.sql_types.specs.declared.lock.Item.TheVariants as item
use Rattle.sql_types.specs.declared.lock.LockRequest.{LockRequest}
use Rattle.sql_types.specs.declared.statement.Stmt.{Stmt}
use Rattle.sql_types.specs.declared.version.Version.{Version}
use Rattle.spec_model.specs.Rows.{EventId, start_cmp}
use Rattle.spec_model.specs.Keys.{Key, same_key, version_key, of_key}
use Rattle.spec_model.specs.Catalog.{Tables, defs_of, versions_of}
use Rattle.spec_model.specs.SystemTables.{tables_id, columns_id}
use Rattle.spec_model.specs.Locks.{CellRequests}
use Rattle.spec_model.specs.Effect.{effect}
use Rattle.spec_model.specs.Agreement.{AgreeIn, AgreeOn, AgreeOnAll, AgreeInCell, AgreeInCatalog, LockRequests, requests_of, AgreeFor, columns_at}
use Rattle.spec_model.specs.Reach.{has_key, is_exclusive, lets_change, cell_reaches, catalog_reaches, reaches}
use Rattle.spec_model.specs.Runs.{IsBefore, EndsBefore, MadeBefore, Rising, Sound}
use Rattle.spec_model.specs.Touched.{ends_by, is_touched, touched}
use Rattle.law_frame.proofs.Alls.{all_filter}
use Rattle.law_frame.proofs.AtTable.{rising_at, before_at}
use Rattle.law_frame.proofs.ByKeys.{by_keys}
use Rattle.law_frame.proofs.LeftTables.{left_key}
use Rattle.law_frame.proofs.SameKeys.{same_key_as, same_itself, and_true}

-- ---- lists

pub filter_both : {A : Type 0} (p q : A → Bool) (xs : List A) → filter p (filter q xs) ≡ filter q (filter p xs)
filter_both p q [] = refl
filter_both p q (x ∷ xs) = by_tests (p x) (q x) refl refl (filter_both p q xs)
  where
    by_tests : (b c : Bool) → p x ≡ b → q x ≡ c → filter p (filter q xs) ≡ filter q (filter p xs) → filter p (if c then x ∷ filter q xs else filter q xs) ≡ filter q (if b then x ∷ filter p xs else filter p xs)
    by_tests true true e f h = rw (e, f) (ap (λ (l : List _). x ∷ l) h)
    by_tests true false e f h = rw f h
    by_tests false true e f h = rw e h
    by_tests false false e f h = h

pub rising_filter : (test : Version → Bool) (vs : List Version) → Rising vs → Rising (filter test vs)
rising_filter test [] h = tt
rising_filter test (v ∷ vs) h = by_test (test v) (rising_filter test vs h.1)
  where
    by_test : (b : Bool) → Rising (filter test vs) → Rising (if b then v ∷ filter test vs else filter test vs)
    by_test true k = (all_filter (λ w. start_cmp v w ≡ Less) test vs h.0, k)
    by_test false k = k

-- ---- keys

key_turned : (a b : Key) → same_key a b ≡ true → same_key b a ≡ true
key_turned a b e = sym (same_key_as a b a e) ∙ same_itself a

both_ways : (a b : Key) (p q : Bool) → same_key a b ≡ p → same_key b a ≡ q → p ≡ q
both_ways a b true q e f = sym (key_turned a b e) ∙ f
both_ways a b false true e f = sym e ∙ key_turned b a f
both_ways a b false false e f = refl

pub key_sym : (a b : Key) → same_key a b ≡ same_key b a
key_sym a b = both_ways a b (same_key a b) (same_key b a) refl refl

like_key : (columns : List ColumnDef) (k key : Key) (V : List Version) → same_key k key ≡ true → of_key columns key V ≡ of_key columns k V
like_key columns k key V e = λ i. filter (λ v. (key_sym (version_key columns v) key ∙ sym (same_key_as k key (version_key columns v) e) ∙ key_sym k (version_key columns v)) i) V

-- ---- what is reached is the same

module _ (T U : Tables) (id : ℕ) (key : Key) where
  abbrev columns : List ColumnDef
  columns = columns_at (defs_of T) id

  by_catalog : (m : Option Mode) → AgreeInCatalog m T U → catalog_reaches id m ≡ true → versions_of T id ≡ versions_of U id
  by_catalog (Some X) a e = ⊎_elim
      (λ (f : (id == tables_id) ≡ true). subst (λ n. versions_of T n ≡ versions_of U n) (sym (eqb-true id tables_id f)) a.tables)
      (λ (f : (id == columns_id) ≡ true). subst (λ n. versions_of T n ≡ versions_of U n) (sym (eqb-true id columns_id f)) a.columns)
      (or_cases (id == tables_id) (id == columns_id) e)
  by_catalog None a e = cc
  by_catalog (Some IS) a e = cc
  by_catalog (Some IX) a e = cc
  by_catalog (Some S) a e = cc

  by_item : (V W : List Version) (m : Mode) (x : Item) → AgreeIn columns m x V W → is_exclusive m ≡ true → has_key key x ≡ true → of_key columns key V ≡ of_key columns key W
  by_item V W X item.Whole a e f = ap (of_key columns key) a
  by_item V W X (item.Key k) a e f = like_key columns k key V f ∙ a ∙ sym (like_key columns k key W f)
  by_item V W IS x a e f = cc
  by_item V W IX x a e f = cc
  by_item V W S x a e f = cc

  by_request : (V W : List Version) (w : LockRequest) → AgreeOn columns V W w → lets_change key w ≡ true → of_key columns key V ≡ of_key columns key W
  by_request V W w a e = let p = and_true (is_exclusive w.mode) (has_key key w.item) e in by_item V W w.mode w.item a p.0 p.1

  by_requests : (V W : List Version) (ws : List LockRequest) → AgreeOnAll columns ws V W → list_any (lets_change key) ws ≡ true → of_key columns key V ≡ of_key columns key W
  by_requests V W [] a e = cc
  by_requests V W (w ∷ ws) a e = ⊎_elim (λ (f : lets_change key w ≡ true). by_request V W w a.0 f) (λ (f : list_any (lets_change key) ws ≡ true). by_requests V W ws a.1 f) (or_cases (lets_change key w) (list_any (lets_change key) ws) e)

  by_cell : (c : CellRequests) → AgreeInCell c T U → cell_reaches id key c ≡ true → of_key columns key (versions_of T id) ≡ of_key columns key (versions_of U id)
  by_cell None a e = cc
  by_cell (Some c) a e = let p = and_true (c.0 == id) (list_any (lets_change key) c.1) e in
      by_requests (versions_of T id) (versions_of U id) c.1 (subst (λ n. AgreeOnAll (columns_at (defs_of T) n) c.1 (versions_of T n) (versions_of U n)) (eqb-true c.0 id p.0) a) p.1

  pub reached_same : (w : LockRequests) → AgreeFor T U w → reaches id key w ≡ true → of_key columns key (versions_of T id) ≡ of_key columns key (versions_of U id)
  reached_same w a e = ⊎_elim
      (λ (f : catalog_reaches id w.catalog ≡ true). ap (of_key columns key) (by_catalog w.catalog a.catalog f))
      (λ (f : cell_reaches id key w.cell ≡ true). by_cell w.cell a.cell f)
      (or_cases (catalog_reaches id w.catalog) (cell_reaches id key w.cell) e)

-- ---- before its start it touched nothing

not_before : (tx : ℕ) (event : EventId) → IsBefore tx 0 event → (event.0 == tx) ≡ false
not_before tx event h = ne_eqb event.0 tx (λ e. let l : event.1 < 0 = h e in absurd (omega arith))

end_not : (tx : ℕ) (o : Option EventId) → EndsBefore tx 0 o → ends_by tx o ≡ false
end_not tx None h = refl
end_not tx (Some event) h = not_before tx event h

pub untouched : (tx : ℕ) (vs : List Version) → AllByRecursion (MadeBefore tx 0) vs → touched tx vs ≡ []
untouched tx [] h = refl
untouched tx (v ∷ vs) h = rw (not_before tx v.start h.0.start) (rw (end_not tx v.end h.0.end) (untouched tx vs h.1))

pub untouched_at : (tx : ℕ) (T : Tables) (id : ℕ) → Sound tx 0 T → touched tx (versions_of T id) ≡ []
untouched_at tx T id h = untouched tx (versions_of T id) (before_at tx 0 id T h.each)

-- ---- a statement

module _ (tx n m : ℕ) (T U : Tables) (stmt : Stmt) (sound : Sound tx n T) (sound_too : Sound tx n U) (defs : defs_of T ≡ defs_of U)
    (same : (id : ℕ) → touched tx (versions_of T id) ≡ touched tx (versions_of U id)) where
  abbrev V : Tables
  V = (effect T tx n stmt).tables

  abbrev W : Tables
  W = (effect U tx n stmt).tables

  module _ (sound_then : Sound tx m V) (sound_too_then : Sound tx m W) (defs_then : defs_of V ≡ defs_of T) (agree : AgreeFor V W (requests_of (defs_of T) false stmt)) (id : ℕ) where
    abbrev cols : List ColumnDef
    cols = columns_at (defs_of T) id

    at_key : (key : Key) (b : Bool) → reaches id key (requests_of (defs_of T) false stmt) ≡ b → of_key cols key (touched tx (versions_of V id)) ≡ of_key cols key (touched tx (versions_of W id))
    at_key key true e = filter_both _ (is_touched tx) (versions_of V id)
        ∙ ap (touched tx) (subst (λ ds. of_key (columns_at ds id) key (versions_of V id) ≡ of_key (columns_at ds id) key (versions_of W id)) defs_then (reached_same V W id key (requests_of (defs_of T) false stmt) agree e))
        ∙ filter_both (is_touched tx) _ (versions_of W id)
    at_key key false e = filter_both _ (is_touched tx) (versions_of V id)
        ∙ ap (touched tx) (left_key tx n T id sound key stmt e)
        ∙ filter_both (is_touched tx) _ (versions_of T id)
        ∙ ap (of_key cols key) (same id)
        ∙ filter_both _ (is_touched tx) (versions_of U id)
        ∙ ap (touched tx) (sym (subst (λ ds. of_key (columns_at ds id) key (versions_of W id) ≡ of_key (columns_at ds id) key (versions_of U id)) (sym defs)
        (left_key tx n U id sound_too key stmt (subst (λ ds. reaches id key (requests_of ds false stmt) ≡ false) defs e))))
        ∙ filter_both (is_touched tx) _ (versions_of W id)

    pub same_touched : touched tx (versions_of V id) ≡ touched tx (versions_of W id)
    same_touched = by_keys cols (touched tx (versions_of V id)) (touched tx (versions_of W id))
        (rising_filter (is_touched tx) (versions_of V id) (rising_at tx m id V sound_then.each))
        (rising_filter (is_touched tx) (versions_of W id) (rising_at tx m id W sound_too_then.each))
        (λ key. at_key key (reaches id key (requests_of (defs_of T) false stmt)) refl)
