-- Undo of the changes of a transaction in all tables.
use Rattle.std.proofs.Common.{◌≡◌, ℕ, ◌+◌, ◌≤◌, refl, sym, ap, subst, ◌∙◌, Bool, true, false, List, [], ◌∷◌, take, Ok, Err, arith}
use Rattle.std.proofs.lemmas.Bool.{eq-eqb, eqb-true, ne_eqb}
use Rattle.std.specs.Prelude.{◌==◌, if◌then◌else◌, zero, suc}
use Rattle.std.specs.List.{AllByRecursion}
use Rattle.sql_types.specs.declared.statement.Stmt.{Stmt}
use Rattle.sql_types.specs.declared.statement.Stmt.TheVariants as s
use Rattle.sql_types.specs.declared.statement.RowStmt.{RowStmt}
use Rattle.sql_types.specs.declared.statement.Select.{Select}
use Rattle.sql_types.specs.declared.table.TableDef.{TableDef}
use Rattle.sql_types.specs.declared.version.Table.{Table}
use Rattle.sql_types.specs.declared.version.Version.{Version}
use Rattle.spec_model.specs.Refusals.{Checked}
use Rattle.spec_model.specs.Rows.{Row}
use Rattle.spec_model.specs.Changes.{Change, Changes, changed, row_changes}
use Rattle.spec_model.specs.Catalog.{NamedPart, Tables, defs_of, versions_of, with_versions}
use Rattle.spec_model.specs.Checks.{row_statement_check}
use Rattle.spec_model.specs.Query.{query_check}
use Rattle.spec_model.specs.Effect.{effect, query_rows}
use Rattle.spec_model.specs.ChangeSets.{TableChange, changed_in, changed_from, row_change_set, row_stmt_change_set, select_change_set, query_change_set, change_set}
use Rattle.spec_model.specs.Agreement.{IdsFrom}
use Rattle.spec_model.specs.Reach.{creates}
use Rattle.spec_model.specs.Runs.{SoundTable, Sound}
use Rattle.spec_model.specs.Undo.{versions_undone, undone}
use Rattle.law_frame.proofs.Alls.{all_weaker, all_both, all_map}
use Rattle.law_frame.proofs.AtTable.{rising_at}
use Rattle.law_frame.proofs.Definitions.{tables_after}
use Rattle.law_frame.proofs.UndoneVersions.{nothing_undone, Undoes, change_undoes, still_undoes, row_undoes}

-- ---- a table is that with its id

ids_above : (k : ℕ) (T : Tables) → IdsFrom k (defs_of T) → AllByRecursion (λ t. k ≤ t.def.id) T
ids_above k [] h = tt
ids_above k (t ∷ ts) h = (omega (arith, h.0), all_weaker (λ u. k + 1 ≤ u.def.id) (λ u. k ≤ u.def.id) (λ u le. omega (arith, le)) ts (ids_above (k + 1) ts h.1))

pub own_versions : (k : ℕ) (T : Tables) → IdsFrom k (defs_of T) → AllByRecursion (λ t. versions_of T t.def.id ≡ t.versions) T
own_versions k [] h = tt
own_versions k (t ∷ ts) h = (
  rw (eq-eqb t.def.id t.def.id refl) refl,
  all_weaker (λ u. (k + 1 ≤ u.def.id) × (versions_of ts u.def.id ≡ u.versions)) (λ u. versions_of (t ∷ ts) u.def.id ≡ u.versions)
      (λ u p. rw (ne_eqb t.def.id u.def.id (λ e. absurd (omega (arith, h.0, p.0, e)))) p.1) ts
      (all_both (λ u. k + 1 ≤ u.def.id) (λ u. versions_of ts u.def.id ≡ u.versions) ts (ids_above (k + 1) ts h.1) (own_versions (k + 1) ts h.1)),
)

module _ (tx n : ℕ) where
  pub none_undone : (T : Tables) → AllByRecursion (SoundTable tx n) T → undone tx n T ≡ T
  unfolding undone
  none_undone [] h = refl
  none_undone (t ∷ ts) h = rw (nothing_undone tx n t.versions h.0.before, none_undone ts h.1) refl

  abbrev pub UndoesAt : Tables → TableChange → Type 0
  UndoesAt T c = AllByRecursion (λ t. (t.def.id == c.0) ≡ true → Undoes tx n t.versions c.1) T

  one_table : (m : ℕ) → n ≤ m → (c : Change) (b : Bool) (t : Table) → (b ≡ true → Undoes tx n t.versions c)
      → with_versions (versions_undone tx n) (if b then with_versions (changed (tx, m) c) t else t) ≡ with_versions (versions_undone tx n) t
  one_table m le c true t h = ap (λ (vs : List Version). with_versions (λ ws. vs) t) (change_undoes tx n m le c t.versions (h refl))
  one_table m le c false t h = refl

  in_tables : (m : ℕ) → n ≤ m → (c : TableChange) (T : Tables) → UndoesAt T c → undone tx n (changed_in (tx, m) c T) ≡ undone tx n T
  unfolding undone
  in_tables m le c [] h = refl
  in_tables m le c (t ∷ ts) h = rw (one_table m le c.1 (t.def.id == c.0) t h.0, in_tables m le c ts h.1) refl

  still_at : (m : ℕ) → n ≤ m → (c : TableChange) (T : Tables) (d : TableChange) → UndoesAt T d → UndoesAt (changed_in (tx, m) c T) d
  still_at m le c T d h =
      all_map (λ t. (t.def.id == d.0) ≡ true → Undoes tx n t.versions d.1) (λ t. (t.def.id == d.0) ≡ true → Undoes tx n t.versions d.1)
      (λ t. if t.def.id == c.0 then with_versions (changed (tx, m) c.1) t else t) (λ t k. here (t.def.id == c.0) t k) T h
    where
      here : (b : Bool) (t : Table) → ((t.def.id == d.0) ≡ true → Undoes tx n t.versions d.1)
          → let u : Table = if b then with_versions (changed (tx, m) c.1) t else t in (u.def.id == d.0) ≡ true → Undoes tx n u.versions d.1
      here true t k = λ e. still_undoes tx n m le c.1 t.versions d.1 (k e)
      here false t k = k

  pub all_undone : (m : ℕ) → n ≤ m → (cs : List TableChange) (T : Tables) → AllByRecursion (UndoesAt T) cs → undone tx n (changed_from tx m cs T) ≡ undone tx n T
  all_undone m le [] T h = refl
  all_undone m le (c ∷ cs) T h =
      all_undone (m + 1) (omega (arith, le)) cs (changed_in (tx, m) c T) (all_weaker (UndoesAt T) (UndoesAt (changed_in (tx, m) c T)) (still_at m le c T) cs h.1)
      ∙ in_tables m le c T h.0

  -- ---- a statement

  module _ (seq : ℕ) (T : Tables) (sound : Sound tx seq T) where
    row_change_set_undoes : (def : TableDef) (stmt : RowStmt) (m : Checked Changes) → row_changes def (versions_of T def.id) stmt ≡ m → AllByRecursion (UndoesAt T) (row_change_set def.id m).changes
    row_change_set_undoes def stmt (Ok c) e =
        all_map (Undoes tx n (versions_of T def.id)) (UndoesAt T) (λ d. (def.id, d))
        (λ d u. all_weaker (λ t. versions_of T t.def.id ≡ t.versions) (λ t. (t.def.id == def.id) ≡ true → Undoes tx n t.versions d)
        (λ t own i. subst (λ (vs : List Version). Undoes tx n vs d) (ap (versions_of T) (sym (eqb-true t.def.id def.id i)) ∙ own) u) T (own_versions 1 T sound.ids))
        c.0 (row_undoes tx n def stmt (versions_of T def.id) c (rising_at tx seq def.id T sound.each) e)
    row_change_set_undoes def stmt (Err r) e = tt

    row_stmt_change_set_undoes : (stmt : RowStmt) (m : Checked TableDef) → AllByRecursion (UndoesAt T) (row_stmt_change_set T stmt m).changes
    row_stmt_change_set_undoes stmt (Ok def) = row_change_set_undoes def stmt (row_changes def (versions_of T def.id) stmt) refl
    row_stmt_change_set_undoes stmt (Err e) = tt

    select_change_set_undoes : (m : Checked (List Row)) → AllByRecursion (UndoesAt T) (select_change_set m).changes
    select_change_set_undoes (Ok rows) = tt
    select_change_set_undoes (Err e) = tt

    query_change_set_undoes : (q : Select) (m : Checked NamedPart) → AllByRecursion (UndoesAt T) (query_change_set T q m).changes
    query_change_set_undoes q (Ok x) = select_change_set_undoes (query_rows q x (versions_of T x.0.id))
    query_change_set_undoes q (Err e) = tt

    pub change_set_undoes : (stmt : Stmt) → creates stmt ≡ false → AllByRecursion (UndoesAt T) (change_set T stmt).changes
    unfolding change_set
    change_set_undoes (s.Create c) e = cc
    change_set_undoes (s.Index c) e = cc
    change_set_undoes (s.Alter x) e = cc
    change_set_undoes (s.Drop name) e = cc
    change_set_undoes (s.Change stmt) e = row_stmt_change_set_undoes stmt (row_statement_check (defs_of T) stmt)
    change_set_undoes (s.Select q) e = query_change_set_undoes q (query_check (defs_of T) q)
    change_set_undoes s.Begin e = tt
    change_set_undoes s.Commit e = tt
    change_set_undoes (s.Save name) e = tt
    change_set_undoes (s.Rollback name) e = tt
    change_set_undoes s.Digest e = tt
    change_set_undoes s.Image e = tt

    -- what a statement did after the number n is undone
    pub statement_undone : n ≤ seq → (stmt : Stmt) → creates stmt ≡ false → undone tx n (effect T tx seq stmt).tables ≡ undone tx n T
    statement_undone le stmt e = ap (undone tx n) (tables_after T tx seq stmt e) ∙ all_undone seq le (change_set T stmt).changes T (change_set_undoes stmt e)

pub first_few : {A : Type 0} (P : A → Type 0) (k : ℕ) (xs : List A) → AllByRecursion P xs → AllByRecursion P (take k xs)
first_few P zero xs h = tt
first_few P (suc k) [] h = tt
first_few P (suc k) (x ∷ xs) h = (h.0, first_few P k xs h.1)

-- a statement of which the first few changes were made
pub part_undone : (T : Tables) (tx seq k : ℕ) (stmt : Stmt) → Sound tx seq T → creates stmt ≡ false → undone tx seq (changed_from tx seq (take k (change_set T stmt).changes) T) ≡ T
part_undone T tx seq k stmt sound e =
    all_undone tx seq seq (omega arith) (take k (change_set T stmt).changes) T (first_few (UndoesAt tx seq T) k (change_set T stmt).changes (change_set_undoes tx seq seq T sound stmt e))
    ∙ none_undone tx seq T sound.each

pub whole_undone : (T : Tables) (tx seq : ℕ) (stmt : Stmt) → Sound tx seq T → creates stmt ≡ false → undone tx seq (effect T tx seq stmt).tables ≡ T
whole_undone T tx seq stmt sound e = statement_undone tx seq seq T sound (omega arith) stmt e ∙ none_undone tx seq T sound.each
