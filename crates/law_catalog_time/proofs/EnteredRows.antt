-- What the rows of ADD, of DROP COLUMN and of CREATE TABLE leave of what rows tell of the columns of a table.
use Rattle.std.proofs.Common.{◌≡◌, ◌≢◌, ◌≤◌, ◌<◌, ◌⊎◌, ℕ, zero, suc, ◌+◌, ◌*◌, inl, inr, refl, sym, ap, subst, Bool, true, false, List, [], ◌∷◌, ◌++◌, map, length, Option, Some, None, arith, length-append}
use Rattle.std.proofs.lemmas.Bool.{eqb-true, eq-eqb}
use Rattle.std.proofs.lemmas.List.{length-set}
use Rattle.std.proofs.lemmas.Option.{slice_get_within}
use Rattle.std.specs.Prelude.{pos, ◌==◌, slice_get, slice_set}
use Rattle.std.specs.List.{AllByRecursion}
use Rattle.sql_value.specs.declared.column.ColumnDef.{ColumnDef}
use Rattle.sql_types.specs.declared.table.TableDef.{TableDef}
use Rattle.sql_types.specs.declared.version.Table.{Table}
use Rattle.sql_types.specs.declared.version.TypedValue.{TypedValue}
use Rattle.sql_types.specs.declared.version.Version.{Version}
use Rattle.spec_model.specs.Lists.{inserted}
use Rattle.spec_model.specs.Rows.{Row, EventId, start_cmp, stored_row, value_or_null, values_of, filled_stored}
use Rattle.spec_model.specs.SystemTables.{columns_columns, bit, column_row, index_row, changed_column_row}
use Rattle.spec_model.specs.Alter.{column_to_add, with_added, dropped_column, with_dropped}
use Rattle.spec_model.specs.Effect.{with_def}
use Rattle.law_frame.proofs.Alls.{all_weaker, all_both, all_inserted}
use Rattle.law_journal.specs.Fits.{FitsSoFar}
use Rattle.law_journal.specs.Kept.{IsEarlier, IsPast}
use Rattle.law_journal.proofs.Order.{new_version}
use Rattle.law_journal.proofs.SoFar.{few}
use Rattle.law_catalog_time.specs.AsOfStart.{IsAboutColumn, SaysNotNull, IsLastBefore, Takes, TakeFrom}
use Rattle.law_catalog_time.proofs.ToldColumns.{with_one, some_new, IsAbout, IsLast, IsTold, AreTold, NoneBehind, Took, ToldTable, still_told, all_took, still_none}

-- ---- which column a row is about

abbrev pub entered : Row → Row
entered row = map value_or_null (stored_row columns_columns row)

one_number : (m n : ℕ) → pos m ≡ pos n → m ≡ n
one_number m n e = cc

pub column_about : (id : ℕ) (p : ℕ × ColumnDef) (i n : ℕ) → IsAboutColumn i n (entered (column_row id p)) → (id ≡ i) × (p.0 ≡ n)
column_about id p i n h = (one_number id i h.0, one_number p.0 n h.1)

pub part_about : (id g : ℕ) (name : List ℕ) (part : ℕ × ℕ) (i n : ℕ) → IsAboutColumn i n (entered (index_row id g name part)) → (id ≡ i) × (1000 * g + part.0 ≡ n)
part_about id g name part i n h = (one_number id i h.0, one_number (1000 * g + part.0) n h.1)

pub changed_about : (change : ℕ) (def : TableDef) (p : ℕ × ColumnDef) (i n : ℕ) → IsAboutColumn i n (entered (changed_column_row change def p)) → (def.id ≡ i) × (p.0 ≡ n)
unfolding changed_column_row
changed_about change def p i n h = (one_number def.id i h.0, one_number p.0 n h.1)

-- and is about it
changed_itself : (change : ℕ) (def : TableDef) (p : ℕ × ColumnDef) → IsAboutColumn def.id p.0 (entered (changed_column_row change def p))
unfolding changed_column_row
changed_itself change def p = (refl, refl)

-- where the column may be NULL, the row doesn't say NOT NULL
changed_null : (change : ℕ) (def : TableDef) (p : ℕ × ColumnDef) → p.1.nullable ≡ true → SaysNotNull (entered (changed_column_row change def p)) → ⊥
unfolding changed_column_row
changed_null change def p e h = let z : pos (bit true) ≡ pos 0 = subst (λ (b : Bool). pos (bit b) ≡ pos 0) e h in cc

-- ---- lists of columns

in_added : (cs : List ColumnDef) (d : ColumnDef) (j : ℕ) (c : ColumnDef) → slice_get (cs ++ d ∷ []) j ≡ Some c → (slice_get cs j ≡ Some c) ⊎ (j ≡ length cs)
in_added [] d zero c e = inr refl
in_added [] d (suc j) c e = cc
in_added (b ∷ cs) d zero c e = inl e
in_added (b ∷ cs) d (suc j) c e = elim (in_added cs d j c e) [ inl k ↦ inl k | inr k ↦ inr (ap suc k) ]

in_set : (cs : List ColumnDef) (i : ℕ) (d : ColumnDef) (j : ℕ) (c : ColumnDef) → j ≢ i → slice_get (slice_set cs i d) j ≡ Some c → slice_get cs j ≡ Some c
in_set [] i d j c ne e = e
in_set (b ∷ cs) zero d zero c ne e = absurd (ne refl)
in_set (b ∷ cs) zero d (suc j) c ne e = e
in_set (b ∷ cs) (suc i) d zero c ne e = e
in_set (b ∷ cs) (suc i) d (suc j) c ne e = in_set cs i d j c (λ same. ne (ap suc same)) e

filled_more : (cs : List ColumnDef) (c : ColumnDef) (vs : List (Option TypedValue)) → length vs ≤ length cs → filled_stored (cs ++ c ∷ []) vs ≡ filled_stored cs vs ++ None ∷ []
filled_more [] c [] le = refl
filled_more [] c (v ∷ vs) le = absurd (omega (arith, le))
filled_more (d ∷ cs) c [] le = ap (λ (ws : List (Option TypedValue)). None ∷ ws) (filled_more cs c [] (omega arith))
filled_more (d ∷ cs) c (v ∷ vs) le = ap (λ (ws : List (Option TypedValue)). v ∷ ws) (filled_more cs c vs (omega (arith, le)))

filled_length : (cs : List ColumnDef) (vs : List (Option TypedValue)) → length vs ≤ length cs → length (filled_stored cs vs) ≡ length cs
filled_length [] [] le = refl
filled_length [] (v ∷ vs) le = absurd (omega (arith, le))
filled_length (d ∷ cs) [] le = ap suc (filled_length cs [] (omega arith))
filled_length (d ∷ cs) (v ∷ vs) le = ap suc (filled_length cs vs (omega (arith, le)))

filled_same : (cs ds : List ColumnDef) (vs : List (Option TypedValue)) → length ds ≡ length cs → filled_stored ds vs ≡ filled_stored cs vs
filled_same [] [] vs e = refl
filled_same [] (d ∷ ds) vs e = absurd (omega (arith, e))
filled_same (c ∷ cs) [] vs e = absurd (omega (arith, e))
filled_same (c ∷ cs) (d ∷ ds) [] e = ap (λ (ws : List (Option TypedValue)). None ∷ ws) (filled_same cs ds [] (omega (arith, e)))
filled_same (c ∷ cs) (d ∷ ds) (v ∷ vs) e = ap (λ (ws : List (Option TypedValue)). v ∷ ws) (filled_same cs ds vs (omega (arith, e)))

-- ---- ALTER TABLE

module _ (place : ℕ → ℕ) (second : List Version) (now : EventId) (past : AllByRecursion (IsPast place now) second) (values : List (Option TypedValue)) (id : ℕ) where
  -- the row that is entered
  abbrev New : Version
  New = new_version now values

  abbrev More : List Version
  More = inserted start_cmp New second

  -- a column about which a row is entered that doesn't say NOT NULL is told of
  own_told : (n : ℕ) (c : ColumnDef) → IsAbout id n New → (SaysNotNull (values_of New) → ⊥) → IsTold place More id n c
  own_told n c itself null = record {
    there = some_new (IsAbout id n) New second itself;
    nulls = λ e. all_inserted (λ w. IsLast place More id n w → SaysNotNull (values_of w) → ⊥) start_cmp New second (λ last says. null says)
        (all_weaker (IsPast place now) (λ w. IsLast place More id n w → SaysNotNull (values_of w) → ⊥)
        (λ w p last says. (with_one (λ x. IsAbout id n x → IsEarlier place w.start x.start → ⊥) New second last.1).0 itself p.start) second past);
  }

  take_one_more : (at : EventId) (n : ℕ) (vs : List (Option TypedValue)) → TakeFrom place More id at n vs → Takes place More id at (n + length vs) None → TakeFrom place More id at n (vs ++ None ∷ [])
  take_one_more at n [] h k = (subst (λ (m : ℕ). Takes place More id at m None) (omega arith) k, tt)
  take_one_more at n (v ∷ vs) h k = (h.0, take_one_more at (n + 1) vs h.1 (subst (λ (m : ℕ). Takes place More id at m None) (omega arith) k))

  -- a column more
  module _ (cs : List ColumnDef) (c : ColumnDef) (room : length cs < 64) (itself : IsAbout id (suc (length cs)) New) (only : (n : ℕ) → IsAbout id n New → suc (length cs) ≡ n) (null : SaysNotNull (values_of New) → ⊥) where
    added_columns : AreTold place second id 1 cs → AreTold place More id 1 (cs ++ c ∷ [])
    added_columns h j d e = elim (in_added cs c j d e) [
      | inl there ↦ still_told place second id New (1 + j) d (λ about. (let same = only (1 + j) about in let lt = slice_get_within cs j d there in omega (arith, same, lt))) (h j d there)
      | inr last ↦ subst (λ (n : ℕ). IsTold place More id n d) (omega (arith, last)) (own_told (suc (length cs)) d itself null)
    ]

    added_behind : NoneBehind place second id (length cs) → NoneBehind place More id (length (cs ++ c ∷ []))
    added_behind h =
        still_none place second id New (length (cs ++ c ∷ [])) (λ n behind lt about. (let same = only n about in omega (arith, same, behind, length-append cs (c ∷ []))))
        (all_weaker (λ w. (n : ℕ) → length cs < n → n < 1000 → IsAbout id n w → ⊥) (λ w. (n : ℕ) → length (cs ++ c ∷ []) < n → n < 1000 → IsAbout id n w → ⊥)
        (λ w k n behind. k n (omega (arith, behind, length-append cs (c ∷ [])))) second h)

    -- no row had said NOT NULL of it
    takes_null : NoneBehind place second id (length cs) → (at : EventId) → Takes place More id at (1 + length cs) None
    takes_null h at =
        all_inserted (λ w. IsLastBefore place More id at (1 + length cs) w → SaysNotNull (values_of w) → ⊥) start_cmp New second (λ last says. null says)
        (all_weaker (λ w. (n : ℕ) → length cs < n → n < 1000 → IsAbout id n w → ⊥) (λ w. IsLastBefore place More id at (1 + length cs) w → SaysNotNull (values_of w) → ⊥)
        (λ w k last says. k (1 + length cs) (omega arith) (omega (arith, room)) last.before.0) second h)

    took_one_more : NoneBehind place second id (length cs) → (v : Version) → FitsSoFar cs v.values → Took place More id cs v → Took place More id (cs ++ c ∷ []) v
    took_one_more none v fits h =
        let le : length v.values ≤ length cs = few cs v.values fits in
        subst (TakeFrom place More id v.start 1) (sym (filled_more cs c v.values le))
        (take_one_more v.start 1 (filled_stored cs v.values) h
        (subst (λ (n : ℕ). Takes place More id v.start (1 + n) None) (sym (filled_length cs v.values le)) (takes_null none v.start)))

    pub added_versions : NoneBehind place second id (length cs) → (vs : List Version) → AllByRecursion (IsPast place now) vs → AllByRecursion (λ v. FitsSoFar cs v.values) vs
        → AllByRecursion (Took place second id cs) vs → AllByRecursion (Took place More id (cs ++ c ∷ [])) vs
    added_versions none vs before fit h =
        all_weaker (λ v. FitsSoFar cs v.values × Took place More id cs v) (Took place More id (cs ++ c ∷ [])) (λ v k. took_one_more none v k.0 k.1) vs
        (all_both (λ v. FitsSoFar cs v.values) (Took place More id cs) vs fit (all_took place second id New now cs vs refl before h))

  -- another column at a place
  module _ (cs : List ColumnDef) (i : ℕ) (c d : ColumnDef) (there : slice_get cs i ≡ Some c) (itself : IsAbout id (suc i) New) (only : (n : ℕ) → IsAbout id n New → suc i ≡ n) (null : SaysNotNull (values_of New) → ⊥) where
    set_columns : AreTold place second id 1 cs → AreTold place More id 1 (slice_set cs i d)
    set_columns h j b e = here (j == i) refl
      where
        here : (same : Bool) → (j == i) ≡ same → IsTold place More id (1 + j) b
        here true is = let same = eqb-true j i is in subst (λ (n : ℕ). IsTold place More id n b) (omega (arith, same)) (own_told (suc i) b itself null)
        here false is =
            let other : j ≢ i = λ same. (let yes : (j == i) ≡ true = eq-eqb j i same in cc) in
            still_told place second id New (1 + j) b (λ about. other (let same = only (1 + j) about in omega (arith, same))) (h j b (in_set cs i d j b other e))

    set_behind : NoneBehind place second id (length cs) → NoneBehind place More id (length (slice_set cs i d))
    set_behind h =
        subst (NoneBehind place More id) (sym (length-set cs i d))
        (still_none place second id New (length cs) (λ n behind lt about. (let same = only n about in let within = slice_get_within cs i c there in omega (arith, same, behind, within))) h)

    set_versions : (vs : List Version) → AllByRecursion (IsPast place now) vs → AllByRecursion (Took place second id cs) vs → AllByRecursion (Took place More id (slice_set cs i d)) vs
    set_versions vs before h =
        all_weaker (Took place More id cs) (Took place More id (slice_set cs i d))
        (λ v k. subst (TakeFrom place More id v.start 1) (sym (filled_same cs (slice_set cs i d) v.values (length-set cs i d))) k) vs
        (all_took place second id New now cs vs refl before h)

-- the row that a change of this column enters
abbrev pub entry : ℕ → TableDef → ℕ × ColumnDef → List (Option TypedValue)
entry change def p = stored_row columns_columns (changed_column_row change def p)

module _ (place : ℕ → ℕ) (second : List Version) (now : EventId) (past : AllByRecursion (IsPast place now) second) (t : Table) (before : AllByRecursion (IsPast place now) t.versions) (change : ℕ) where
  pub added_told : (c : ColumnDef) → length t.def.columns < 64 → AllByRecursion (λ v. FitsSoFar t.def.columns v.values) t.versions → ToldTable place second t
      → ToldTable place (inserted start_cmp (new_version now (entry change (with_added t.def c) (suc (length t.def.columns), column_to_add c))) second) (with_def (with_added t.def c) t)
  added_told c room fit h =
      let cs : List ColumnDef = t.def.columns in
      let new : ColumnDef = column_to_add c in
      let p : ℕ × ColumnDef = (suc (length cs), new) in
      let values : List (Option TypedValue) = entry change (with_added t.def c) p in
      let itself = changed_itself change (with_added t.def c) p in
      let only : (n : ℕ) → IsAbout t.def.id n (new_version now values) → suc (length cs) ≡ n = λ n about. (changed_about change (with_added t.def c) p t.def.id n about).1 in
      let null = changed_null change (with_added t.def c) p refl in
      record {
        columns = added_columns place second now past values t.def.id cs new room itself only null h.columns;
        behind = added_behind place second now past values t.def.id cs new room itself only null h.behind;
        versions = added_versions place second now past values t.def.id cs new room itself only null h.behind t.versions before fit h.versions;
      }

  pub dropped_told : (p : ℕ × ColumnDef) → slice_get t.def.columns p.0 ≡ Some p.1 → ToldTable place second t
      → ToldTable place (inserted start_cmp (new_version now (entry change (with_dropped t.def p) (suc p.0, dropped_column (suc p.0) p.1))) second) (with_def (with_dropped t.def p) t)
  dropped_told p there h =
      let cs : List ColumnDef = t.def.columns in
      let new : ColumnDef = dropped_column (suc p.0) p.1 in
      let q : ℕ × ColumnDef = (suc p.0, new) in
      let values : List (Option TypedValue) = entry change (with_dropped t.def p) q in
      let itself = changed_itself change (with_dropped t.def p) q in
      let only : (n : ℕ) → IsAbout t.def.id n (new_version now values) → suc p.0 ≡ n = λ n about. (changed_about change (with_dropped t.def p) q t.def.id n about).1 in
      let null = changed_null change (with_dropped t.def p) q refl in
      record {
        columns = set_columns place second now past values t.def.id cs p.0 p.1 new there itself only null h.columns;
        behind = set_behind place second now past values t.def.id cs p.0 p.1 new there itself only null h.behind;
        versions = set_versions place second now past values t.def.id cs p.0 p.1 new there itself only null t.versions before h.versions;
      }
