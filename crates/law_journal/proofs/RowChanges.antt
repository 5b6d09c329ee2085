-- The changes of INSERT, UPDATE and DELETE are fine.
use Rattle.std.proofs.Common.{◌≡◌, ℕ, subst, false, List, Ok}
use Rattle.std.specs.List.{AllByRecursion, list_any, zip}
use Rattle.sql_value.specs.declared.column.ColumnDef.{ColumnDef}
use Rattle.sql_value.specs.declared.expr.Expr.{Expr}
use Rattle.sql_types.specs.declared.statement.RowStmt.{RowStmt}
use Rattle.sql_types.specs.declared.statement.RowStmt.TheVariants.{Insert, Update, Delete}
use Rattle.sql_types.specs.declared.table.TableDef.{TableDef}
use Rattle.sql_types.specs.declared.table.Part.{Part}
use Rattle.sql_types.specs.declared.version.Version.{Version}
use Rattle.spec_model.specs.Refusals.{and_then}
use Rattle.spec_model.specs.Lists.{checked_map, repeats}
use Rattle.spec_model.specs.Rows.{Row}
use Rattle.spec_model.specs.Changes.{Changes, written_names, inserted_rows, versions_matched, row_after_set, insertion, replacement, deletion, row_changes}
use Rattle.spec_model.specs.Create.{names_of}
use Rattle.spec_model.specs.Checks.{is_in_key, row_check}
use Rattle.spec_model.specs.Runs.{Rising}
use Rattle.law_frame.proofs.Checked.{Led, led}
use Rattle.law_frame.proofs.Alls.{all_weaker}
use Rattle.law_frame.proofs.LeftRows.{zipped}
use Rattle.law_frame.proofs.UpdateKeys.{update_keeps_key, sets_no_key}
use Rattle.law_journal.specs.Fits.{FitsSoFar}
use Rattle.law_journal.proofs.Values.{row_set_fits}
use Rattle.law_journal.proofs.NewRows.{rows_have_all, inserted_new}
use Rattle.law_journal.proofs.Taken.{OpenAnd, taken_open, taken_distinct, distinct_zip}
use Rattle.law_journal.proofs.Here.{AllHere, Open, Here, TakesPlace, AllDistinct, starts_fine, update_fine, delete_fine}

module _ (place : ℕ → ℕ) (tx seq : ℕ) where
  -- what a row statement relies on
  pub record Ready (columns : List ColumnDef) (V : List Version) : Type 0 where
    pub names : repeats (names_of columns) ≡ false
    pub rising : Rising V
    pub here : Here place columns (tx, seq) V
    pub fit : AllByRecursion (λ v. FitsSoFar columns v.values) V

  abbrev FitOf : List ColumnDef → Version → Type 0
  FitOf columns v = FitsSoFar columns v.values

  replaced_fine : (columns : List ColumnDef) (V : List Version) (sets : List (List ℕ × Expr)) (taken : List Version) (rows : List Row) → Ready columns V → list_any (λ s. is_in_key columns s.0) sets ≡ false
      → AllByRecursion (OpenAnd columns (FitOf columns) V) taken → AllDistinct taken → checked_map (row_after_set columns sets) taken ≡ Ok rows → AllHere columns tx seq (replacement columns (zip taken rows)).0 V
  replaced_fine columns V sets taken rows r none o d e =
      let z = zipped (row_after_set columns sets) (OpenAnd columns (FitOf columns) V) taken rows e o in
      update_fine place columns tx seq (zip taken rows) V r.here (distinct_zip place columns taken rows d)
      (all_weaker (λ (p : Version × Row). (Open p.0 V × FitOf columns p.0) × (row_after_set columns sets p.0 ≡ Ok p.1)) (λ (p : Version × Row). Open p.0 V) (λ p h. h.0.0) (zip taken rows) z)
      (all_weaker (λ (p : Version × Row). (Open p.0 V × FitOf columns p.0) × (row_after_set columns sets p.0 ≡ Ok p.1)) (TakesPlace place columns)
      (λ p h. (row_set_fits columns sets p.0 p.1 h.0.1 h.1, update_keeps_key columns sets p.0 p.1 r.names none h.1)) (zip taken rows) z)

  pub row_fine : (def : TableDef) (part : Part) (V : List Version) (stmt : RowStmt) (c : Changes) → Ready def.columns V → row_check stmt def part ≡ Ok tt → row_changes def V stmt ≡ Ok c → AllHere def.columns tx seq c.0 V
  unfolding row_changes
  row_fine def part V (Insert table names rows) c r check e =
      let l : Led (inserted_rows def.columns V (written_names def names) rows) (λ kept. Ok (insertion def.columns kept)) c = led _ _ c e in
      let is : insertion def.columns l.value ≡ c = cc in
      subst (λ (d : Changes). AllHere def.columns tx seq d.0 V) is
      (starts_fine def.columns tx seq l.value V (inserted_new def.columns V (written_names def names) rows l.value (rows_have_all def part names rows check) l.was))
  row_fine def part V (Update table sets cond) c r check e =
      let l : Led (versions_matched def.columns cond V) (λ taken. and_then (checked_map (row_after_set def.columns sets) taken) (λ rows. Ok (replacement def.columns (zip taken rows)))) c = led _ _ c e in
      let k : Led (checked_map (row_after_set def.columns sets) l.value) (λ rows. Ok (replacement def.columns (zip l.value rows))) c = led _ _ c l.then_ in
      let is : replacement def.columns (zip l.value k.value) ≡ c = cc in
      subst (λ (d : Changes). AllHere def.columns tx seq d.0 V) is
      (replaced_fine def.columns V sets l.value k.value r (sets_no_key def part sets cond check) (taken_open def.columns (FitOf def.columns) V cond l.value r.fit l.was) (taken_distinct def.columns (FitOf def.columns) V cond l.value r.rising l.was) k.was)
  row_fine def part V (Delete table cond) c r check e =
      let l : Led (versions_matched def.columns cond V) (λ taken. Ok (deletion taken)) c = led _ _ c e in
      let is : deletion l.value ≡ c = cc in
      subst (λ (d : Changes). AllHere def.columns tx seq d.0 V) is
      (delete_fine def.columns tx seq l.value V (taken_distinct def.columns (FitOf def.columns) V cond l.value r.rising l.was)
      (all_weaker (OpenAnd def.columns (FitOf def.columns) V) (λ u. Open u V) (λ u h. h.0) l.value (taken_open def.columns (FitOf def.columns) V cond l.value r.fit l.was)))
