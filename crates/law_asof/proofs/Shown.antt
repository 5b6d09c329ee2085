-- What is left of base and history of a table, sorted together, is what is left of its versions, filled.
use Rattle.std.proofs.Common.{◌≡◌, ℕ, refl, ap, sym, ◌∙◌, Bool, true, false, not, List, [], ◌∷◌, ◌++◌, map, Option, Some, None}
use Rattle.std.specs.Prelude.{if◌then◌else◌, is_none, is_some}
use Rattle.std.specs.List.{AllByRecursion, filter}
use Rattle.std.specs.declared.cmp.Ordering.{Ordering}
use Rattle.std.specs.declared.cmp.Ordering.TheVariants.{Less, Equal, Greater}
use Rattle.std.specs.Ordering.{is_gt, ordering_reverse}
use Rattle.std.specs.Cmp.{IsTotalOrder, on_total, then_total, nat_cmp_total}
use Rattle.sql_value.specs.declared.column.ColumnDef.{ColumnDef}
use Rattle.sql_types.specs.declared.version.Version.{Version}
use Rattle.sql_types.specs.declared.version.Table.{Table}
use Rattle.spec_model.specs.Lists.{inserted, sorted}
use Rattle.spec_model.specs.Rows.{EventId, start_cmp, live}
use Rattle.spec_model.specs.Runs.{Rising}
use Rattle.format_image.specs.Rows.{ended_ones, filled_version, table_rows}
use Rattle.law_accepts.proofs.FilledTables.{all_filled}
use Rattle.spec_asof.specs.DatabaseAt.{left_of, versions_at, with_end_at}

start_total : IsTotalOrder start_cmp
start_total = on_total (λ (v : Version). v.start) (then_total (on_total (λ (a : ℕ × ℕ). a.0) nat_cmp_total) (on_total (λ (a : ℕ × ℕ). a.1) nat_cmp_total))

greater : (o : Ordering) → is_gt o ≡ true → o ≡ Greater
greater Less e = cc
greater Equal e = cc
greater Greater e = refl

behind_it : (a b : Version) → start_cmp a b ≡ Less → is_gt (start_cmp b a) ≡ true
behind_it a b lt = ap is_gt (start_total.antisymm b a ∙ ap ordering_reverse lt)

before_it : (a b : Version) → start_cmp a b ≡ Less → is_gt (start_cmp a b) ≡ false
before_it a b lt = ap is_gt lt

behind_too : (a b w : Version) → start_cmp a b ≡ Less → is_gt (start_cmp a w) ≡ true → is_gt (start_cmp b w) ≡ true
behind_too a b w lt gt =
    let less : start_cmp w a ≡ Less = start_total.antisymm w a ∙ ap ordering_reverse (greater (start_cmp a w) gt) in
    behind_it w b (start_total.trans w a b less lt)

-- ---- insertion

goes_behind : (v w : Version) (l : List Version) → is_gt (start_cmp v w) ≡ true → inserted start_cmp v (w ∷ l) ≡ w ∷ inserted start_cmp v l
goes_behind v w l e = ap (λ (b : Bool). if b then w ∷ inserted start_cmp v l else v ∷ w ∷ l) e

goes_before : (v w : Version) (l : List Version) → is_gt (start_cmp v w) ≡ false → inserted start_cmp v (w ∷ l) ≡ v ∷ w ∷ l
goes_before v w l e = ap (λ (b : Bool). if b then w ∷ inserted start_cmp v l else v ∷ w ∷ l) e

commute_by : (a b w : Version) (l : List Version) → start_cmp a b ≡ Less → (p q : Bool) → is_gt (start_cmp a w) ≡ p → is_gt (start_cmp b w) ≡ q
    → inserted start_cmp b (inserted start_cmp a l) ≡ inserted start_cmp a (inserted start_cmp b l)
    → inserted start_cmp b (inserted start_cmp a (w ∷ l)) ≡ inserted start_cmp a (inserted start_cmp b (w ∷ l))
commute_by a b w l lt true true p q ih =
    ap (inserted start_cmp b) (goes_behind a w l p) ∙ goes_behind b w (inserted start_cmp a l) q ∙ ap (λ (xs : List Version). w ∷ xs) ih
    ∙ sym (goes_behind a w (inserted start_cmp b l) p) ∙ ap (inserted start_cmp a) (sym (goes_behind b w l q))
commute_by a b w l lt true false p q ih = let no : is_gt (start_cmp b w) ≡ true = behind_too a b w lt p in cc
commute_by a b w l lt false true p q ih =
    ap (inserted start_cmp b) (goes_before a w l p) ∙ goes_behind b a (w ∷ l) (behind_it a b lt) ∙ ap (λ (xs : List Version). a ∷ xs) (goes_behind b w l q)
    ∙ sym (goes_before a w (inserted start_cmp b l) p) ∙ ap (inserted start_cmp a) (sym (goes_behind b w l q))
commute_by a b w l lt false false p q ih =
    ap (inserted start_cmp b) (goes_before a w l p) ∙ goes_behind b a (w ∷ l) (behind_it a b lt) ∙ ap (λ (xs : List Version). a ∷ xs) (goes_before b w l q)
    ∙ sym (goes_before a b (w ∷ l) (before_it a b lt)) ∙ ap (inserted start_cmp a) (sym (goes_before b w l q))

commute : (a b : Version) (l : List Version) → start_cmp a b ≡ Less → inserted start_cmp b (inserted start_cmp a l) ≡ inserted start_cmp a (inserted start_cmp b l)
commute a b [] lt = goes_behind b a [] (behind_it a b lt) ∙ sym (goes_before a b [] (before_it a b lt))
commute a b (w ∷ l) lt = commute_by a b w l lt (is_gt (start_cmp a w)) (is_gt (start_cmp b w)) refl refl (commute a b l lt)

-- ---- sorting

past : (v : Version) (xs ys : List Version) → AllByRecursion (λ x. start_cmp v x ≡ Less) xs → sorted start_cmp (xs ++ v ∷ ys) ≡ inserted start_cmp v (sorted start_cmp (xs ++ ys))
past v [] ys all = refl
past v (x ∷ xs) ys all = ap (inserted start_cmp x) (past v xs ys all.1) ∙ commute v x (sorted start_cmp (xs ++ ys)) all.0

at_front : (v : Version) (ws : List Version) → AllByRecursion (λ w. start_cmp v w ≡ Less) ws → inserted start_cmp v ws ≡ v ∷ ws
at_front v [] all = refl
at_front v (w ∷ ws) all = goes_before v w ws (before_it v w all.0)

one_or_other : (o : Option EventId) → is_some o ≡ not (is_none o)
one_or_other None = refl
one_or_other (Some e) = refl

module _ (has : ℕ → Bool) where
  -- one more in front, if its start counts
  first_left : (v : Version) (vs : List Version) (b : Bool) → has v.start.0 ≡ b → left_of has (v ∷ vs) ≡ (if b then with_end_at has v ∷ left_of has vs else left_of has vs)
  first_left v vs true e = rw e refl
  first_left v vs false e = rw e refl

  of_two_by : (v : Version) (xs ys : List Version) (b : Bool) → has v.start.0 ≡ b → left_of has (xs ++ ys) ≡ left_of has xs ++ left_of has ys → left_of has (v ∷ (xs ++ ys)) ≡ left_of has (v ∷ xs) ++ left_of has ys
  of_two_by v xs ys true e ih = rw e (ap (λ (l : List Version). with_end_at has v ∷ l) ih)
  of_two_by v xs ys false e ih = rw e ih

  of_two : (xs ys : List Version) → left_of has (xs ++ ys) ≡ left_of has xs ++ left_of has ys
  of_two [] ys = refl
  of_two (v ∷ xs) ys = of_two_by v xs ys (has v.start.0) refl (of_two xs ys)

  -- what is left starts as before
  behind_by : (a v : Version) (vs : List Version) (b : Bool) → has v.start.0 ≡ b → start_cmp a v ≡ Less
      → AllByRecursion (λ w. start_cmp a w ≡ Less) (left_of has vs) → AllByRecursion (λ w. start_cmp a w ≡ Less) (left_of has (v ∷ vs))
  behind_by a v vs true e lt ih = rw e (lt, ih)
  behind_by a v vs false e lt ih = rw e ih

  behind : (a : Version) (vs : List Version) → AllByRecursion (λ w. start_cmp a w ≡ Less) vs → AllByRecursion (λ w. start_cmp a w ≡ Less) (left_of has vs)
  behind a [] all = tt
  behind a (v ∷ vs) all = behind_by a v vs (has v.start.0) refl all.0 (behind a vs all.1)

  filtered_by : (P : Version → Type 0) (v : Version) (xs : List Version) (b : Bool) → P v → AllByRecursion P xs → AllByRecursion P (if b then v ∷ xs else xs)
  filtered_by P v xs true p all = (p, all)
  filtered_by P v xs false p all = all

  each_filtered : (P : Version → Type 0) (test : Version → Bool) (vs : List Version) → AllByRecursion P vs → AllByRecursion P (filter test vs)
  each_filtered P test [] all = tt
  each_filtered P test (v ∷ vs) all = filtered_by P v (filter test vs) (test v) all.0 (each_filtered P test vs all.1)

  -- a version put back into its part
  put_back : (v : Version) (L E ws : List Version) (b c h : Bool) → c ≡ not b → has v.start.0 ≡ h
      → AllByRecursion (λ x. start_cmp v x ≡ Less) (left_of has L) → AllByRecursion (λ x. start_cmp v x ≡ Less) ws
      → sorted start_cmp (left_of has L ++ left_of has E) ≡ ws
      → sorted start_cmp (left_of has (if b then v ∷ L else L) ++ left_of has (if c then v ∷ E else E)) ≡ (if h then with_end_at has v ∷ ws else ws)
  put_back v L E ws true false true e k all more s = rw k (ap (inserted start_cmp (with_end_at has v)) s ∙ at_front (with_end_at has v) ws more)
  put_back v L E ws true false false e k all more s = rw k s
  put_back v L E ws false true true e k all more s =
      rw k (past (with_end_at has v) (left_of has L) (left_of has E) all ∙ ap (inserted start_cmp (with_end_at has v)) s ∙ at_front (with_end_at has v) ws more)
  put_back v L E ws false true false e k all more s = rw k s
  put_back v L E ws true true h e k all more s = cc
  put_back v L E ws false false h e k all more s = cc

  both_left : (vs : List Version) → Rising vs → sorted start_cmp (left_of has (live vs) ++ left_of has (ended_ones vs)) ≡ left_of has vs
  both_left [] rising = refl
  both_left (v ∷ vs) rising =
      put_back v (live vs) (ended_ones vs) (left_of has vs) (is_none v.end) (is_some v.end) (has v.start.0) (one_or_other v.end) refl
      (behind v (live vs) (each_filtered (λ x. start_cmp v x ≡ Less) (λ w. is_none w.end) vs rising.0)) (behind v vs rising.0) (both_left vs rising.1)
      ∙ sym (first_left v vs (has v.start.0) refl)

  -- versions are filled where they stand: they start and end as before
  module _ (columns : List ColumnDef) where
    abbrev full : Version → Version
    full v = filled_version columns v

    full_rising : (vs : List Version) → Rising vs → Rising (map full vs)
    full_rising [] rising = tt
    full_rising (v ∷ vs) rising = (all_filled columns (λ w. start_cmp v w ≡ Less) (λ w. start_cmp (full v) w ≡ Less) (λ w e. e) vs rising.0, full_rising vs rising.1)

    full_left_by : (v : Version) (vs : List Version) (b : Bool) → has v.start.0 ≡ b → left_of has (map full vs) ≡ map full (left_of has vs) → left_of has (map full (v ∷ vs)) ≡ map full (left_of has (v ∷ vs))
    full_left_by v vs true e ih = rw e (ap (λ (l : List Version). full (with_end_at has v) ∷ l) ih)
    full_left_by v vs false e ih = rw e ih

    full_left : (vs : List Version) → left_of has (map full vs) ≡ map full (left_of has vs)
    full_left [] = refl
    full_left (v ∷ vs) = full_left_by v vs (has v.start.0) refl (full_left vs)

  pub told_versions : (t : Table) → Rising t.versions → versions_at has (table_rows t) ≡ map (filled_version t.def.columns) (left_of has t.versions)
  unfolding versions_at table_rows
  told_versions t rising =
      let vs : List Version = map (filled_version t.def.columns) t.versions in
      ap (sorted start_cmp) (of_two (live vs) (ended_ones vs)) ∙ both_left vs (full_rising t.def.columns t.versions rising) ∙ full_left t.def.columns t.versions
