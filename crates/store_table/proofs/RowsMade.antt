-- Each change of a row statement is the start of a row that fits, or the end of a version that stands, each once.
use Rattle.std.proofs.Common.{◌≡◌, ℕ, inl, inr, subst, false, List, [], ◌∷◌, map, flat_map, Option, Some, None, Ok}
use Rattle.std.specs.List.{AllByRecursion, zip}
use Rattle.sql_value.specs.declared.column.ColumnDef.{ColumnDef}
use Rattle.sql_value.specs.declared.expr.Expr.{Expr}
use Rattle.sql_value.specs.declared.refusal.Refusal.TheVariants.{NoSuchTable}
use Rattle.sql_types.specs.declared.statement.RowStmt.{RowStmt}
use Rattle.sql_types.specs.declared.statement.RowStmt.TheVariants.{Insert, Update, Delete}
use Rattle.sql_types.specs.declared.table.TableDef.{TableDef}
use Rattle.sql_types.specs.declared.table.Part.{Part}
use Rattle.sql_types.specs.declared.version.TypedValue.{TypedValue}
use Rattle.sql_types.specs.declared.version.Version.{Version}
use Rattle.spec_model.specs.Catalog.{find_part}
use Rattle.spec_model.specs.Changes.{Change, Changes, Starts, Ends, written_names, inserted_rows, versions_matched, row_after_set, replaced, insertion, replacement, deletion, row_changes}
use Rattle.spec_model.specs.Checks.{row_check, row_statement_check, table_of}
use Rattle.spec_model.specs.Lists.{checked_map}
use Rattle.spec_model.specs.Refusals.{and_then, or_refused}
use Rattle.spec_model.specs.Rows.{Row, same_event, stored_row}
use Rattle.spec_model.specs.Runs.{Rising}
use Rattle.law_frame.proofs.Checked.{Led, led}
use Rattle.law_frame.proofs.LeftRows.{all_flat_map, zipped}
use Rattle.law_journal.specs.Fits.{FitsSoFar}
use Rattle.law_journal.proofs.Here.{AllNew, Open, Distinct, AllDistinct}
use Rattle.law_journal.proofs.NewRows.{rows_have_all, inserted_new}
use Rattle.law_journal.proofs.Taken.{OpenAnd, taken_open, taken_distinct, distinct_zip}
use Rattle.law_journal.proofs.Values.{row_set_fits}
use Rattle.store_table.specs.Made.{LiveFits, IsMade}
use Rattle.store_table.specs.Orders.{version_at}
use Rattle.store_table.proofs.InOrder.{find_own}
use Rattle.store_table.proofs.Events.{Apart, AllApart}

-- ---- a version that stands

module _ (V : List Version) where
  open_found : (u : Version) (vs : List Version) → AllByRecursion (λ w. version_at w.start V ≡ Some w) vs → Open u vs → (version_at u.start V ≡ Some u) × (u.end ≡ None)
  open_found u [] h o = absurd o
  open_found u (v ∷ vs) h o = elim o [
    | inl p ↦ (subst (λ (w : Version). version_at w.start V ≡ Some w) p.0 h.0, p.1)
    | inr q ↦ open_found u vs h.1 q
  ]

module _ (columns : List ColumnDef) (V : List Version) (rising : Rising V) where
  abbrev FitOf : Version → Type 0
  FitOf v = FitsSoFar columns v.values

  live_fits : (u : Version) → OpenAnd columns FitOf V u → LiveFits columns u.start V
  live_fits u h = let p = open_found V u V (find_own V rising) h.0 in record { version = u; found = p.0; is_live = p.1; fits = h.1 }

  -- ---- INSERT

  starts_made : (rows : List Row) → AllNew columns rows V → AllByRecursion (IsMade columns V) (map (λ row. Starts (stored_row columns row)) rows)
  starts_made [] a = tt
  starts_made (r ∷ rs) a = (a.0, starts_made rs a.3)

  start_apart : (values : List (Option TypedValue)) (cs : List Change) → AllByRecursion (Apart 0 0 0 columns (Starts values)) cs
  start_apart values [] = tt
  start_apart values (c ∷ cs) = (tt, start_apart values cs)

  starts_apart : (rows : List Row) → AllApart columns (map (λ row. Starts (stored_row columns row)) rows)
  starts_apart [] = tt
  starts_apart (r ∷ rs) = (start_apart (stored_row columns r) (map (λ row. Starts (stored_row columns row)) rs), starts_apart rs)

  -- ---- DELETE

  ends_made : (taken : List Version) → AllByRecursion (OpenAnd columns FitOf V) taken → AllByRecursion (IsMade columns V) (map (λ v. Ends v.start) taken)
  ends_made [] o = tt
  ends_made (u ∷ us) o = (live_fits u o.0, ends_made us o.1)

  end_apart : (u : Version) (us : List Version) → AllByRecursion (λ w. same_event w.start u.start ≡ false) us → AllByRecursion (Apart 0 0 0 columns (Ends u.start)) (map (λ v. Ends v.start) us)
  end_apart u [] d = tt
  end_apart u (w ∷ ws) d = (d.0, end_apart u ws d.1)

  ends_apart : (taken : List Version) → AllDistinct taken → AllApart columns (map (λ v. Ends v.start) taken)
  ends_apart [] d = tt
  ends_apart (u ∷ us) d = (end_apart u us d.0, ends_apart us d.1)

  -- ---- UPDATE

  abbrev Replaces : List (List ℕ × Expr) → Version × Row → Type 0
  Replaces sets p = OpenAnd columns FitOf V p.0 × (row_after_set columns sets p.0 ≡ Ok p.1)

  pair_made : (sets : List (List ℕ × Expr)) (p : Version × Row) → Replaces sets p → AllByRecursion (IsMade columns V) (replaced columns p.0 p.1)
  pair_made sets p h = (live_fits p.0 h.0, (row_set_fits columns sets p.0 p.1 h.0.1 h.1, tt))

  pair_apart : (p : Version × Row) (ps : List (Version × Row)) → AllByRecursion (λ (q : Version × Row). same_event q.0.start p.0.start ≡ false) ps
      → AllByRecursion (Apart 0 0 0 columns (Ends p.0.start)) (flat_map (λ (q : Version × Row). replaced columns q.0 q.1) ps)
  pair_apart p [] d = tt
  pair_apart p (q ∷ qs) d = (d.0, (tt, pair_apart p qs d.1))

  pairs_apart : (ps : List (Version × Row)) → Distinct (λ n. n) columns ps → AllApart columns (flat_map (λ (q : Version × Row). replaced columns q.0 q.1) ps)
  pairs_apart [] d = tt
  pairs_apart (p ∷ ps) d = (
    (tt, pair_apart p ps d.0),
    (start_apart (stored_row columns p.1) (flat_map (λ (q : Version × Row). replaced columns q.0 q.1) ps), pairs_apart ps d.1),
  )

-- ---- the whole statement

-- each change is made, and no two end one version
pub record AreMade (columns : List ColumnDef) (V : List Version) (cs : List Change) : Type 0 where
  pub made : AllByRecursion (IsMade columns V) cs
  pub apart : AllApart columns cs

module _ (def : TableDef) (V : List Version) (rising : Rising V) (fit : AllByRecursion (λ v. FitsSoFar def.columns v.values) V) where
  changes_made : (part : Part) (stmt : RowStmt) (c : Changes) → row_check stmt def part ≡ Ok tt → row_changes def V stmt ≡ Ok c → AreMade def.columns V c.0
  unfolding row_changes
  changes_made part (Insert table names rows) c check e =
      let l : Led (inserted_rows def.columns V (written_names def names) rows) (λ kept. Ok (insertion def.columns kept)) c = led _ _ c e in
      let is : insertion def.columns l.value ≡ c = cc in
      subst (λ (d : Changes). AreMade def.columns V d.0) is record {
        made = starts_made def.columns V rising l.value (inserted_new def.columns V (written_names def names) rows l.value (rows_have_all def part names rows check) l.was);
        apart = starts_apart def.columns V rising l.value;
      }
  changes_made part (Update table sets cond) c check e =
      let l : Led (versions_matched def.columns cond V) (λ taken. and_then (checked_map (row_after_set def.columns sets) taken) (λ rows. Ok (replacement def.columns (zip taken rows)))) c = led _ _ c e in
      let k : Led (checked_map (row_after_set def.columns sets) l.value) (λ rows. Ok (replacement def.columns (zip l.value rows))) c = led _ _ c l.then_ in
      let is : replacement def.columns (zip l.value k.value) ≡ c = cc in
      let open_ = taken_open def.columns (FitOf def.columns V rising) V cond l.value fit l.was in
      subst (λ (d : Changes). AreMade def.columns V d.0) is record {
        made = all_flat_map (Replaces def.columns V rising sets) (IsMade def.columns V) (λ p. replaced def.columns p.0 p.1) (pair_made def.columns V rising sets) (zip l.value k.value)
            (zipped (row_after_set def.columns sets) (OpenAnd def.columns (FitOf def.columns V rising) V) l.value k.value k.was open_);
        apart = pairs_apart def.columns V rising (zip l.value k.value)
            (distinct_zip (λ n. n) def.columns l.value k.value (taken_distinct def.columns (FitOf def.columns V rising) V cond l.value rising l.was));
      }
  changes_made part (Delete table cond) c check e =
      let l : Led (versions_matched def.columns cond V) (λ taken. Ok (deletion taken)) c = led _ _ c e in
      let is : deletion l.value ≡ c = cc in
      subst (λ (d : Changes). AreMade def.columns V d.0) is record {
        made = ends_made def.columns V rising l.value (taken_open def.columns (FitOf def.columns V rising) V cond l.value fit l.was);
        apart = ends_apart def.columns V rising l.value (taken_distinct def.columns (FitOf def.columns V rising) V cond l.value rising l.was);
      }

  -- a statement that passes what is checked before any row
  pub row_made : (stmt : RowStmt) (c : Changes) → row_statement_check (def ∷ []) stmt ≡ Ok def → row_changes def V stmt ≡ Ok c → AreMade def.columns V c.0
  unfolding row_statement_check
  row_made stmt c passes e =
      let l : Led (or_refused NoSuchTable (find_part (def ∷ []) (table_of stmt))) (λ n. and_then (row_check stmt n.0 n.1) (λ passed. Ok n.0)) def = led _ _ def passes in
      let k : Led (row_check stmt l.value.0 l.value.1) (λ passed. Ok l.value.0) def = led _ _ def l.then_ in
      let is : l.value.0 ≡ def = cc in
      changes_made l.value.1 stmt c (subst (λ (d : TableDef). row_check stmt d l.value.1 ≡ Ok tt) is k.was) e
