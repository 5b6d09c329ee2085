-- A row statement leaves the versions of the keys on which it wants no X.
use Rattle.std.proofs.Common.{◌≡◌, ℕ, refl, sym, ap, subst, ◌∙◌, Bool, true, false, List, [], ◌∷◌, map, flat_map, Option, Some, None, Ok}
use Rattle.std.specs.Prelude.{is_none}
use Rattle.std.specs.List.{AllByRecursion, list_any, zip}
use Rattle.sql_value.specs.declared.column.ColumnDef.{ColumnDef}
use Rattle.sql_value.specs.declared.expr.Expr.{Expr}
use Rattle.sql_types.specs.declared.lock.Mode.TheVariants.{IX, X}
use Rattle.sql_types.specs.declared.statement.RowStmt.{RowStmt}
use Rattle.sql_types.specs.declared.statement.RowStmt.TheVariants.{Insert, Update, Delete}
use Rattle.sql_types.specs.declared.table.TableDef.{TableDef}
use Rattle.sql_types.specs.declared.table.Part.{Part}
use Rattle.sql_types.specs.declared.version.Version.{Version}
use Rattle.spec_model.specs.Refusals.{Checked, and_then}
use Rattle.spec_model.specs.Lists.{checked_map, all_some, repeats}
use Rattle.spec_model.specs.Rows.{Row, same_event, live, stored_row}
use Rattle.spec_model.specs.Keys.{Key, key_cmp, same_key, version_key, of_key, live_by_key, live_by_key_at}
use Rattle.spec_model.specs.Where.{key_fixed}
use Rattle.spec_model.specs.Changes.{Starts, Ends, Changes, written_names, inserted_rows, versions_matched, row_after_set, replaced, insertion, replacement, deletion, row_changes}
use Rattle.spec_model.specs.Create.{names_of}
use Rattle.spec_model.specs.Checks.{is_in_key, row_check}
use Rattle.spec_model.specs.Locks as request
use Rattle.spec_model.specs.Reach.{lets_change}
use Rattle.spec_model.specs.Runs.{Rising}
use Rattle.law_frame.proofs.Checked.{Led, led}
use Rattle.law_frame.proofs.Alls.{all_weaker, all_both, all_append, all_map, all_filter, all_pass, all_sorted, all_checked_filter}
use Rattle.law_frame.proofs.SameKeys.{same_key_as, or_false, IsAlone, each_alone}
use Rattle.law_frame.proofs.UpdateKeys.{update_keeps_key, sets_no_key}
use Rattle.law_frame.proofs.LeftAlone.{Leaves, insert_unlike}

-- ---- pairs

pub zipped : {A B : Type 0} (f : A → Checked B) (P : A → Type 0) (xs : List A) (ys : List B) → checked_map f xs ≡ Ok ys → AllByRecursion P xs → AllByRecursion (λ (p : A × B). P p.0 × (f p.0 ≡ Ok p.1)) (zip xs ys)
zipped f P [] [] e h = tt
zipped f P [] (y ∷ ys) e h = tt
zipped f P (x ∷ xs) ys e h =
    let l : Led (f x) (λ z. and_then (checked_map f xs) (λ zs. Ok (z ∷ zs))) ys = led _ _ ys e in
    let k : Led (checked_map f xs) (λ zs. Ok (l.value ∷ zs)) ys = led _ _ ys l.then_ in
    let is : ys ≡ l.value ∷ k.value = cc in
    rw is ((h.0, l.was), zipped f P xs k.value k.was h.1)

pub all_flat_map : {A B : Type 0} (P : A → Type 0) (Q : B → Type 0) (f : A → List B) → ((x : A) → P x → AllByRecursion Q (f x)) → (xs : List A) → AllByRecursion P xs → AllByRecursion Q (flat_map f xs)
all_flat_map P Q f g [] h = tt
all_flat_map P Q f g (x ∷ xs) h = all_append Q (f x) (flat_map f xs) (g x h.0) (all_flat_map P Q f g xs h.1)

module _ (columns : List ColumnDef) (key : Key) (V : List Version) where
  abbrev has_it : Version → Bool
  has_it v = same_key (version_key columns v) key

  -- this version's end leaves the key, and it has another
  abbrev Apart : Version → Type 0
  Apart v = Leaves columns key V (Ends v.start) × (has_it v ≡ false)

  apart : (k : Key) → same_key k key ≡ false → (v : Version) → IsAlone V v × (same_key (version_key columns v) k ≡ true) → Apart v
  apart k unlike v h =
      let other : has_it v ≡ false = same_key_as (version_key columns v) k key h.1 ∙ unlike in
      (all_weaker (λ w. same_event w.start v.start ≡ true → w ≡ v) (λ w. same_event w.start v.start ≡ true → has_it w ≡ false) (λ w a e. subst (λ (u : Version). has_it u ≡ false) (sym (a e)) other) V h.0, other)

  all_apart : (k : Key) → Rising V → same_key k key ≡ false → AllByRecursion Apart (of_key columns k V)
  all_apart k r unlike =
      all_weaker (λ v. IsAlone V v × (same_key (version_key columns v) k ≡ true)) Apart (apart k unlike) (of_key columns k V)
      (all_both (IsAlone V) (λ v. same_key (version_key columns v) k ≡ true) (of_key columns k V)
      (all_filter (IsAlone V) (λ v. same_key (version_key columns v) k) V (each_alone V r))
      (all_pass (λ v. same_key (version_key columns v) k) V))

  live_apart : (o : Option Key) → Rising V → list_any (lets_change key) (request.by_key_or_whole IX X o) ≡ false → AllByRecursion Apart (live_by_key columns o V)
  unfolding live_by_key_at
  live_apart (Some k) r h =
      all_sorted Apart (λ v w. key_cmp (version_key columns v) (version_key columns w)) (live (of_key columns k V))
      (all_filter Apart (λ v. is_none v.end) (of_key columns k V) (all_apart k r (or_false (same_key k key) false h).0))
  live_apart None r h = cc

  taken_apart : (cond : Option Expr) (taken : List Version) → Rising V → list_any (lets_change key) (request.by_key_or_whole IX X (key_fixed columns cond)) ≡ false → versions_matched columns cond V ≡ Ok taken → AllByRecursion Apart taken
  unfolding versions_matched
  taken_apart cond taken r h e = all_checked_filter Apart _ (live_by_key columns (key_fixed columns cond) V) taken e (live_apart (key_fixed columns cond) r h)

  ends_leave : (taken : List Version) → AllByRecursion Apart taken → AllByRecursion (Leaves columns key V) (map (λ v. Ends v.start) taken)
  ends_leave taken h = all_map Apart (Leaves columns key V) (λ v. Ends v.start) (λ v a. a.0) taken h

  abbrev Replaced : List (List ℕ × Expr) → Version × Row → Type 0
  Replaced sets p = Apart p.0 × (row_after_set columns sets p.0 ≡ Ok p.1)

  replaced_leaves : (sets : List (List ℕ × Expr)) → repeats (names_of columns) ≡ false → list_any (λ s. is_in_key columns s.0) sets ≡ false
      → (p : Version × Row) → Replaced sets p → AllByRecursion (Leaves columns key V) (replaced columns p.0 p.1)
  replaced_leaves sets names none p h = (h.0.0, (ap (λ (k : Key). same_key k key) (update_keeps_key columns sets p.0 p.1 names none h.1) ∙ h.0.1, tt))

  replacements_leave : (sets : List (List ℕ × Expr)) (taken : List Version) (rows : List Row) → repeats (names_of columns) ≡ false → list_any (λ s. is_in_key columns s.0) sets ≡ false
      → AllByRecursion Apart taken → checked_map (row_after_set columns sets) taken ≡ Ok rows → AllByRecursion (Leaves columns key V) (replacement columns (zip taken rows)).0
  replacements_leave sets taken rows names none h e =
      all_flat_map (Replaced sets) (Leaves columns key V) (λ p. replaced columns p.0 p.1) (replaced_leaves sets names none) (zip taken rows)
      (zipped (row_after_set columns sets) Apart taken rows e h)

pub row_leaves : (def : TableDef) (part : Part) (stmt : RowStmt) (key : Key) (V : List Version) (c : Changes) → Rising V → repeats (names_of def.columns) ≡ false → row_check stmt def part ≡ Ok tt
    → list_any (lets_change key) (request.row_requests def stmt) ≡ false → row_changes def V stmt ≡ Ok c → AllByRecursion (Leaves def.columns key V) c.0
unfolding row_changes request.row_requests
row_leaves def part (Insert table names rows) key V c r distinct check h e =
    let l : Led (inserted_rows def.columns V (written_names def names) rows) (λ kept. Ok (insertion def.columns kept)) c = led _ _ c e in
    let is : insertion def.columns l.value ≡ c = cc in
    subst (λ (d : Changes). AllByRecursion (Leaves def.columns key V) d.0) is
    (all_map _ (Leaves def.columns key V) (λ row. Starts (stored_row def.columns row)) (λ row u. u) l.value
    (insert_unlike def.columns key (written_names def names) V rows l.value (all_some (map (request.key_inserted def.columns (written_names def names)) rows)) refl h l.was))
row_leaves def part (Update table sets cond) key V c r distinct check h e =
    let l : Led (versions_matched def.columns cond V) (λ taken. and_then (checked_map (row_after_set def.columns sets) taken) (λ rows. Ok (replacement def.columns (zip taken rows)))) c = led _ _ c e in
    let k : Led (checked_map (row_after_set def.columns sets) l.value) (λ rows. Ok (replacement def.columns (zip l.value rows))) c = led _ _ c l.then_ in
    let is : replacement def.columns (zip l.value k.value) ≡ c = cc in
    subst (λ (d : Changes). AllByRecursion (Leaves def.columns key V) d.0) is
    (replacements_leave def.columns key V sets l.value k.value distinct (sets_no_key def part sets cond check) (taken_apart def.columns key V cond l.value r h l.was) k.was)
row_leaves def part (Delete table cond) key V c r distinct check h e =
    let l : Led (versions_matched def.columns cond V) (λ taken. Ok (deletion taken)) c = led _ _ c e in
    let is : deletion l.value ≡ c = cc in
    subst (λ (d : Changes). AllByRecursion (Leaves def.columns key V) d.0) is
    (ends_leave def.columns key V l.value (taken_apart def.columns key V cond l.value r h l.was))
