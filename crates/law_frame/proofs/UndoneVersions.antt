-- Undo of the changes of a transaction in the versions of a table.
use Rattle.std.proofs.Common.{◌≡◌, ℕ, ◌≤◌, refl, sym, ap, subst, Bool, true, false, List, [], ◌∷◌, map, Option, Some, None, Ok, arith}
use Rattle.std.proofs.lemmas.Bool.{eq-eqb, eqb-true, le-leb, leb-true}
use Rattle.std.specs.Prelude.{◌==◌, ◌&&◌, not, nat_le, if◌then◌else◌, is_none}
use Rattle.std.specs.List.{AllByRecursion, filter, zip}
use Rattle.std.specs.declared.cmp.Ordering.{Ordering}
use Rattle.std.specs.Ordering.{is_gt}
use Rattle.sql_value.specs.declared.column.ColumnDef.{ColumnDef}
use Rattle.sql_value.specs.declared.expr.Expr.{Expr}
use Rattle.sql_types.specs.declared.statement.RowStmt.{RowStmt}
use Rattle.sql_types.specs.declared.statement.RowStmt.TheVariants.{Insert, Update, Delete}
use Rattle.sql_types.specs.declared.table.TableDef.{TableDef}
use Rattle.sql_types.specs.declared.version.Version.{Version}
use Rattle.spec_model.specs.Refusals.{and_then}
use Rattle.spec_model.specs.Lists.{inserted, checked_map}
use Rattle.spec_model.specs.Rows.{Row, EventId, same_event, start_cmp, started, with_end, ended, live, stored_row}
use Rattle.spec_model.specs.Keys.{Key, key_cmp, same_key, version_key, part_read, live_by_key, live_by_key_at}
use Rattle.spec_model.specs.Where.{key_fixed}
use Rattle.spec_model.specs.Changes.{Change, Starts, Ends, Changes, changed, written_names, inserted_rows, versions_matched, row_after_set, replaced, insertion, replacement, deletion, row_changes}
use Rattle.spec_model.specs.Undo.{is_undone, end_left, end_undone, versions_undone}
use Rattle.spec_model.specs.Runs.{Rising, IsBefore, EndsBefore, MadeBefore}
use Rattle.law_frame.proofs.Checked.{Led, led}
use Rattle.law_frame.proofs.Alls.{all_weaker, all_both, all_map, all_filter, all_pass, all_sorted, all_inserted, all_checked_filter}
use Rattle.law_frame.proofs.SameKeys.{IsAlone, each_alone}
use Rattle.law_frame.proofs.LeftRows.{zipped, all_flat_map}

-- ---- lists

between : {A : Type 0} (test : A → Bool) (b : Bool) (x y : A) (ys zs : List A) → test x ≡ false → filter test zs ≡ filter test ys → filter test (if b then y ∷ zs else x ∷ y ∷ ys) ≡ filter test (y ∷ ys)
between test true x y ys zs h e = ap (λ (s : List _). if test y then y ∷ s else s) e
between test false x y ys zs h e = rw h refl

pub filter_inserted : {A : Type 0} (test : A → Bool) (cmp : A → A → Ordering) (x : A) (ys : List A) → test x ≡ false → filter test (inserted cmp x ys) ≡ filter test ys
filter_inserted test cmp x [] h = rw h refl
filter_inserted test cmp x (y ∷ ys) h = between test (is_gt (cmp x y)) x y ys (inserted cmp x ys) h (filter_inserted test cmp x ys h)

module _ (tx n : ℕ) where
  -- ---- what is undone

  mine : (m : ℕ) → n ≤ m → is_undone tx n (tx, m) ≡ true
  mine m le = rw (eq-eqb tx tx refl, le-leb n m le) refl

  not_mine : (e : EventId) → IsBefore tx n e → is_undone tx n e ≡ false
  not_mine e h = here (e.0 == tx) (nat_le n e.1) refl refl
    where
      here : (b c : Bool) → (e.0 == tx) ≡ b → nat_le n e.1 ≡ c → (b && c) ≡ false
      here true true i j = absurd (omega (arith, h (eqb-true e.0 tx i), leb-true n e.1 j))
      here true false i j = refl
      here false c i j = refl

  end_stays : (o : Option EventId) → EndsBefore tx n o → end_left tx n o ≡ o
  end_stays None h = refl
  end_stays (Some e) h = rw (not_mine e h) refl

  with_this_end : Version → Option EventId → Version
  with_this_end v o = record { values = v.values; start = v.start; end = o }

  version_stays : (v : Version) → EndsBefore tx n v.end → end_undone tx n v ≡ v
  unfolding with_this_end
  version_stays v h = ap (with_this_end v) (end_stays v.end h)

  -- without an event from n on there is nothing to undo
  pub nothing_undone : (vs : List Version) → AllByRecursion (MadeBefore tx n) vs → versions_undone tx n vs ≡ vs
  nothing_undone [] h = refl
  nothing_undone (v ∷ vs) h = rw (not_mine v.start h.0.start) (rw (version_stays v h.0.end, nothing_undone vs h.1) refl)

  -- ---- a change that can be undone: what it ends has no other end

  abbrev pub Undoes : List Version → Change → Type 0
  Undoes versions (Starts values) = Unit {0}
  Undoes versions (Ends start) = AllByRecursion (λ v. same_event v.start start ≡ true → end_left tx n v.end ≡ None) versions

  one_end : (m : ℕ) → n ≤ m → (v : Version) (b : Bool) (us vs : List Version) → (b ≡ true → end_left tx n v.end ≡ None) → versions_undone tx n us ≡ versions_undone tx n vs
      → versions_undone tx n ((if b then with_end (tx, m) v else v) ∷ us) ≡ versions_undone tx n (v ∷ vs)
  unfolding with_this_end
  one_end m le v true us vs h e = by_start (not (is_undone tx n v.start))
    where
      same : end_undone tx n (with_end (tx, m) v) ≡ end_undone tx n v
      same = ap (with_this_end v) (rw (mine m le) (sym (h refl)))

      by_start : (c : Bool) → map (end_undone tx n) (if c then with_end (tx, m) v ∷ filter (λ w. not (is_undone tx n w.start)) us else filter (λ w. not (is_undone tx n w.start)) us)
          ≡ map (end_undone tx n) (if c then v ∷ filter (λ w. not (is_undone tx n w.start)) vs else filter (λ w. not (is_undone tx n w.start)) vs)
      by_start true = rw (same, e) refl
      by_start false = e
  one_end m le v false us vs h e = by_start (not (is_undone tx n v.start))
    where
      by_start : (c : Bool) → map (end_undone tx n) (if c then v ∷ filter (λ w. not (is_undone tx n w.start)) us else filter (λ w. not (is_undone tx n w.start)) us)
          ≡ map (end_undone tx n) (if c then v ∷ filter (λ w. not (is_undone tx n w.start)) vs else filter (λ w. not (is_undone tx n w.start)) vs)
      by_start true = ap (λ (ws : List Version). end_undone tx n v ∷ ws) e
      by_start false = e

  end_undoes : (m : ℕ) → n ≤ m → (start : EventId) (vs : List Version) → Undoes vs (Ends start) → versions_undone tx n (ended (tx, m) start vs) ≡ versions_undone tx n vs
  unfolding ended
  end_undoes m le start [] h = refl
  end_undoes m le start (v ∷ vs) h = one_end m le v (same_event v.start start) _ vs h.0 (end_undoes m le start vs h.1)

  pub change_undoes : (m : ℕ) → n ≤ m → (c : Change) (vs : List Version) → Undoes vs c → versions_undone tx n (changed (tx, m) c vs) ≡ versions_undone tx n vs
  unfolding started
  change_undoes m le (Starts values) vs h = ap (map (end_undone tx n)) (filter_inserted (λ v. not (is_undone tx n v.start)) start_cmp _ vs (ap not (mine m le)))
  change_undoes m le (Ends start) vs h = end_undoes m le start vs h

  -- it still can be undone after another one
  pub still_undoes : (m : ℕ) → n ≤ m → (c : Change) (vs : List Version) (d : Change) → Undoes vs d → Undoes (changed (tx, m) c vs) d
  unfolding started ended
  still_undoes m le c vs (Starts values) k = tt
  still_undoes m le (Starts values) vs (Ends start) k = all_inserted (λ v. same_event v.start start ≡ true → end_left tx n v.end ≡ None) start_cmp _ vs (λ e. refl) k
  still_undoes m le (Ends begun) vs (Ends start) k =
      all_map (λ v. same_event v.start start ≡ true → end_left tx n v.end ≡ None) (λ v. same_event v.start start ≡ true → end_left tx n v.end ≡ None)
      (λ v. if same_event v.start begun then with_end (tx, m) v else v) (λ v l. same (same_event v.start begun) v l) vs k
    where
      same : (b : Bool) (v : Version) → (same_event v.start start ≡ true → end_left tx n v.end ≡ None)
          → let w : Version = if b then with_end (tx, m) v else v in same_event w.start start ≡ true → end_left tx n w.end ≡ None
      same true v l = λ e. rw (mine m le) refl
      same false v l = l

  -- ---- the changes of a row statement

  no_end : (o : Option EventId) → is_none o ≡ true → end_left tx n o ≡ None
  no_end None h = refl
  no_end (Some e) h = cc

  module _ (columns : List ColumnDef) (V : List Version) (rising : Rising V) where
    abbrev Undone : Version → Type 0
    Undone v = Undoes V (Ends v.start)

    live_undone : (v : Version) → IsAlone V v × (is_none v.end ≡ true) → Undone v
    live_undone v h = all_weaker (λ w. same_event w.start v.start ≡ true → w ≡ v) (λ w. same_event w.start v.start ≡ true → end_left tx n w.end ≡ None)
        (λ w a e. subst (λ (u : Version). end_left tx n u.end ≡ None) (sym (a e)) (no_end v.end h.1)) V h.0

    part_alone : (o : Option Key) → AllByRecursion (IsAlone V) (part_read columns o V)
    part_alone None = each_alone V rising
    part_alone (Some key) = all_filter (IsAlone V) (λ v. same_key (version_key columns v) key) V (each_alone V rising)

    undone_live : (o : Option Key) → AllByRecursion Undone (live_by_key columns o V)
    unfolding live_by_key_at
    undone_live o =
        all_sorted Undone (λ v w. key_cmp (version_key columns v) (version_key columns w)) (live (part_read columns o V))
        (all_weaker (λ v. IsAlone V v × (is_none v.end ≡ true)) Undone live_undone (live (part_read columns o V))
        (all_both (IsAlone V) (λ v. is_none v.end ≡ true) (live (part_read columns o V))
        (all_filter (IsAlone V) (λ v. is_none v.end) (part_read columns o V) (part_alone o))
        (all_pass (λ v. is_none v.end) (part_read columns o V))))

    taken_undone : (cond : Option Expr) (taken : List Version) → versions_matched columns cond V ≡ Ok taken → AllByRecursion Undone taken
    unfolding versions_matched
    taken_undone cond taken e = all_checked_filter Undone _ (live_by_key columns (key_fixed columns cond) V) taken e (undone_live (key_fixed columns cond))

    replacements_undone : (sets : List (List ℕ × Expr)) (taken : List Version) (rows : List Row) → AllByRecursion Undone taken → checked_map (row_after_set columns sets) taken ≡ Ok rows
        → AllByRecursion (Undoes V) (replacement columns (zip taken rows)).0
    replacements_undone sets taken rows h e =
        all_flat_map (λ p. Undone p.0 × (row_after_set columns sets p.0 ≡ Ok p.1)) (Undoes V) (λ p. replaced columns p.0 p.1) (λ p h. (h.0, (tt, tt))) (zip taken rows)
        (zipped (row_after_set columns sets) Undone taken rows e h)

  starts_undone : (columns : List ColumnDef) (V : List Version) (rows : List Row) → AllByRecursion (Undoes V) (map (λ row. Starts (stored_row columns row)) rows)
  starts_undone columns V [] = tt
  starts_undone columns V (r ∷ rs) = (tt, starts_undone columns V rs)

  pub row_undoes : (def : TableDef) (stmt : RowStmt) (V : List Version) (c : Changes) → Rising V → row_changes def V stmt ≡ Ok c → AllByRecursion (Undoes V) c.0
  unfolding row_changes
  row_undoes def (Insert table names rows) V c r e =
      let l : Led (inserted_rows def.columns V (written_names def names) rows) (λ kept. Ok (insertion def.columns kept)) c = led _ _ c e in
      let is : insertion def.columns l.value ≡ c = cc in
      subst (λ (d : Changes). AllByRecursion (Undoes V) d.0) is (starts_undone def.columns V l.value)
  row_undoes def (Update table sets cond) V c r e =
      let l : Led (versions_matched def.columns cond V) (λ taken. and_then (checked_map (row_after_set def.columns sets) taken) (λ rows. Ok (replacement def.columns (zip taken rows)))) c = led _ _ c e in
      let k : Led (checked_map (row_after_set def.columns sets) l.value) (λ rows. Ok (replacement def.columns (zip l.value rows))) c = led _ _ c l.then_ in
      let is : replacement def.columns (zip l.value k.value) ≡ c = cc in
      subst (λ (d : Changes). AllByRecursion (Undoes V) d.0) is (replacements_undone def.columns V r sets l.value k.value (taken_undone def.columns V r cond l.value l.was) k.was)
  row_undoes def (Delete table cond) V c r e =
      let l : Led (versions_matched def.columns cond V) (λ taken. Ok (deletion taken)) c = led _ _ c e in
      let is : deletion l.value ≡ c = cc in
      subst (λ (d : Changes). AllByRecursion (Undoes V) d.0) is
      (all_map (Undone def.columns V r) (Undoes V) (λ v. Ends v.start) (λ v h. h) l.value (taken_undone def.columns V r cond l.value l.was))
