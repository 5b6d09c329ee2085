-- What a statement leaves alone: the versions of keys on which it wants no X.
use Rattle.std.proofs.Common.{◌≡◌, ℕ, ◌+◌, refl, ap, subst, ◌∙◌, Bool, true, false, List, [], ◌∷◌, ◌++◌, map, Option, Some, None, Ok, Err}
use Rattle.std.specs.Prelude.{if◌then◌else◌}
use Rattle.std.specs.List.{AllByRecursion, list_any}
use Rattle.std.specs.Ordering.{is_gt}
use Rattle.sql_value.specs.declared.column.ColumnDef.{ColumnDef}
use Rattle.sql_value.specs.declared.refusal.Refusal.{Refusal}
use Rattle.sql_types.specs.declared.lock.Mode.TheVariants.{X}
use Rattle.sql_types.specs.declared.version.Version.{Version}
use Rattle.spec_model.specs.Refusals.{Checked, and_then}
use Rattle.spec_model.specs.Lists.{inserted, checked_fold, all_some}
use Rattle.spec_model.specs.Rows.{Row, EventId, same_event, start_cmp, started, with_end, ended, value_or_null, stored_row}
use Rattle.spec_model.specs.Keys.{Key, key_of, same_key, version_key, of_key}
use Rattle.spec_model.specs.Changes.{Change, Starts, Ends, changed, changed_all, kept, kept_row, arranged, is_duplicate, one_more, inserted_rows}
use Rattle.spec_model.specs.Locks as request
use Rattle.spec_model.specs.Reach.{lets_change}
use Rattle.law_frame.proofs.Checked.{Led, led, Parts, parts}
use Rattle.law_frame.proofs.Alls.{all_weaker, all_append, all_map, all_inserted}
use Rattle.law_frame.proofs.SameKeys.{or_false}
use Rattle.law_frame.proofs.InsertedKeys.{inserted_key}
use Rattle.law_frame.proofs.MappedRows.{stored_mapped}

module _ (columns : List ColumnDef) (key : Key) where
  abbrev has_key : Version → Bool
  has_key v = same_key (version_key columns v) key

  -- ---- a start and an end

  between : (b : Bool) (v w : Version) (xs ys : List Version) → has_key v ≡ false → of_key columns key ys ≡ of_key columns key xs
      → of_key columns key (if b then w ∷ ys else v ∷ w ∷ xs) ≡ of_key columns key (w ∷ xs)
  between true v w xs ys h e = ap (λ (s : List Version). if has_key w then w ∷ s else s) e
  between false v w xs ys h e = rw h refl

  pub start_leaves : (v : Version) (vs : List Version) → has_key v ≡ false → of_key columns key (inserted start_cmp v vs) ≡ of_key columns key vs
  start_leaves v [] h = rw h refl
  start_leaves v (w ∷ ws) h = between (is_gt (start_cmp v w)) v w ws (inserted start_cmp v ws) h (start_leaves v ws h)

  one_ended : (at : EventId) (v : Version) (b : Bool) (xs ys : List Version) → (b ≡ true → has_key v ≡ false) → of_key columns key xs ≡ of_key columns key ys
      → of_key columns key ((if b then with_end at v else v) ∷ xs) ≡ of_key columns key (v ∷ ys)
  one_ended at v true xs ys h e = rw (h refl) e
  one_ended at v false xs ys h e = ap (λ (s : List Version). if has_key v then v ∷ s else s) e

  abbrev pub Leaves : List Version → Change → Type 0
  Leaves versions (Starts values) = same_key (key_of columns (map value_or_null values)) key ≡ false
  Leaves versions (Ends start) = AllByRecursion (λ v. same_event v.start start ≡ true → has_key v ≡ false) versions

  end_leaves : (at start : EventId) (vs : List Version) → Leaves vs (Ends start) → of_key columns key (ended at start vs) ≡ of_key columns key vs
  unfolding ended
  end_leaves at start [] h = refl
  end_leaves at start (v ∷ vs) h = one_ended at v (same_event v.start start) _ vs h.0 (end_leaves at start vs h.1)

  pub change_leaves : (at : EventId) (c : Change) (vs : List Version) → Leaves vs c → of_key columns key (changed at c vs) ≡ of_key columns key vs
  unfolding started
  change_leaves at (Starts values) vs h = start_leaves (record { values = values; start = at; end = None }) vs h
  change_leaves at (Ends start) vs h = end_leaves at start vs h

  -- what another change leaves, it leaves after this one
  still : (at : EventId) (c : Change) (vs : List Version) → Leaves vs c → (d : Change) → Leaves vs d → Leaves (changed at c vs) d
  unfolding started ended
  still at c vs h (Starts values) k = k
  still at (Starts values) vs h (Ends start) k = all_inserted (λ v. same_event v.start start ≡ true → has_key v ≡ false) start_cmp _ vs (λ e. h) k
  still at (Ends begun) vs h (Ends start) k =
      all_map (λ v. same_event v.start start ≡ true → has_key v ≡ false) (λ v. same_event v.start start ≡ true → has_key v ≡ false)
      (λ v. if same_event v.start begun then with_end at v else v) (λ v l. same (same_event v.start begun) v l) vs k
    where
      same : (b : Bool) (v : Version) → (same_event v.start start ≡ true → has_key v ≡ false)
          → let w : Version = if b then with_end at v else v in same_event w.start start ≡ true → has_key w ≡ false
      same true v l = l
      same false v l = l

  pub all_leave : (tx seq : ℕ) (cs : List Change) (vs : List Version) → AllByRecursion (Leaves vs) cs → of_key columns key (changed_all tx seq cs vs) ≡ of_key columns key vs
  unfolding changed_all
  all_leave tx seq [] vs h = refl
  all_leave tx seq (c ∷ cs) vs h =
      all_leave tx (seq + 1) cs (changed (tx, seq) c vs) (all_weaker (Leaves vs) (Leaves (changed (tx, seq) c vs)) (still (tx, seq) c vs h.0) cs h.1)
      ∙ change_leaves (tx, seq) c vs h.0

  -- ---- INSERT

  abbrev Unlike : Row → Type 0
  Unlike row = same_key (key_of columns (map value_or_null (stored_row columns row))) key ≡ false

  module _ (names : Option (List (List ℕ))) (vs : List Version) where
    abbrev KeptUnlike : Row → Type 0
    KeptUnlike r = (row : Row) → kept_row columns (arranged columns names r) ≡ Ok row → Unlike row

    abbrev next_row : List Row → Row → Checked (List Row)
    next_row before row = and_then (kept_row columns (arranged columns names row)) (one_more columns vs before)

    added : (b : Bool) (e : Refusal) (before more : List Row) (row : Row) → (if b then Err e else Ok (before ++ row ∷ [])) ≡ Ok more → AllByRecursion Unlike before → Unlike row → AllByRecursion Unlike more
    added true e before more row h k l = cc
    added false e before more row h k l = let is : before ++ row ∷ [] ≡ more = cc in subst (AllByRecursion Unlike) is (all_append Unlike before (row ∷ []) k (l, tt))

    rows_unlike : (rows before out : List Row) → checked_fold next_row before rows ≡ Ok out → AllByRecursion KeptUnlike rows → AllByRecursion Unlike before → AllByRecursion Unlike out
    rows_unlike [] before out e h k = let is : before ≡ out = cc in subst (AllByRecursion Unlike) is k
    rows_unlike (r ∷ rs) before out e h k =
        let l : Led (next_row before r) (λ more. checked_fold next_row more rs) out = led _ _ out e in
        let m : Led (kept_row columns (arranged columns names r)) (one_more columns vs before) l.value = led _ _ l.value l.was in
        rows_unlike rs l.value out l.then_ h.1 (added (is_duplicate columns vs before (key_of columns m.value)) _ before l.value m.value m.then_ k (h.0 m.value m.was))

    kept_stored : (row out : Row) → kept_row columns row ≡ Ok out → map value_or_null (stored_row columns out) ≡ out
    unfolding kept_row
    kept_stored row out e = stored_mapped kept columns row out e

    wanted_unlike : (rows : List Row) (keys : List Key) → all_some (map (request.key_inserted columns names) rows) ≡ Some keys → list_any (lets_change key) (map (request.of_key X) keys) ≡ false → AllByRecursion KeptUnlike rows
    wanted_unlike [] keys e h = tt
    wanted_unlike (r ∷ rs) keys e h =
        let p : Parts (request.key_inserted columns names r) (all_some (map (request.key_inserted columns names) rs)) keys = parts _ _ keys e in
        let q = or_false (same_key p.first key) (list_any (lets_change key) (map (request.of_key X) p.others)) (subst (λ (ks : List Key). list_any (lets_change key) (map (request.of_key X) ks) ≡ false) p.are h) in (
          (λ row is. ap (λ (k : Row). same_key (key_of columns k) key) (kept_stored (arranged columns names r) row is)
              ∙ ap (λ (k : Key). same_key k key) (inserted_key columns names r row p.first is p.is_first) ∙ q.0),
          wanted_unlike rs p.others p.are_others q.1,
        )

    pub insert_unlike : (rows out : List Row) (o : Option (List Key)) → all_some (map (request.key_inserted columns names) rows) ≡ o → list_any (lets_change key) (request.by_keys o) ≡ false
        → inserted_rows columns vs names rows ≡ Ok out → AllByRecursion Unlike out
    unfolding inserted_rows
    insert_unlike rows out (Some keys) e h i = rows_unlike rows [] out i (wanted_unlike rows keys e h) tt
    insert_unlike rows out None e h i = cc
