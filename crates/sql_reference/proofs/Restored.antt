-- A statement that changes definitions, in a script of its own, and how the tables before it are given back.
use Rattle.std.proofs.Common.{◌≡◌, ◌≤◌, ℕ, ◌+◌, refl, sym, ap, ◌∙◌, Bool, true, false, List, [], ◌∷◌, ◌++◌, map, length, Option, Some, None, Ok, Err, arith}
use Rattle.std.proofs.lemmas.List.{map-append, length-map}
use Rattle.std.specs.Prelude.{◌==◌, if◌then◌else◌}
use Rattle.std.specs.List.{AllByRecursion}
use Rattle.sql_value.specs.declared.column.ColumnDef.{ColumnDef}
use Rattle.sql_types.specs.declared.statement.Stmt.{Stmt}
use Rattle.sql_types.specs.declared.statement.Stmt.TheVariants as s
use Rattle.sql_types.specs.declared.table.TableDef.{TableDef}
use Rattle.sql_types.specs.declared.table.IndexDef.{IndexDef}
use Rattle.sql_types.specs.declared.version.Table.{Table}
use Rattle.sql_types.specs.declared.version.TypedValue.{TypedValue}
use Rattle.sql_types.specs.declared.version.Version.{Version}
use Rattle.spec_model.specs.Refusals.{Checked, and_then}
use Rattle.spec_model.specs.Alter.{WithColumn, alter_check, altered_table, drop_check, gone_table, next_change}
use Rattle.spec_model.specs.Rows.{Row, stored_row}
use Rattle.spec_model.specs.Changes.{Starts}
use Rattle.spec_model.specs.Catalog.{Defs, Tables, defs_of, versions_of, with_versions}
use Rattle.spec_model.specs.Create.{create_check, index_check}
use Rattle.spec_model.specs.SystemTables.{tables_id, columns_id, tables_columns, columns_columns, table_row, column_rows, index_rows, changed_table_row, changed_column_row}
use Rattle.spec_model.specs.Effect.{Effect, effect, table_start, column_starts, with_def, redefined}
use Rattle.spec_model.specs.ChangeSets.{TableChange, in_table, changed_from, Definition, as_before, new, in_place, altered, defined, create_table_change_set, create_index_change_set, altered_change_set, change_set}
use Rattle.spec_model.specs.Reach.{creates}
use Rattle.spec_model.specs.Script.{by_effect}
use Rattle.spec_model.specs.Undo.{versions_undone, undone}
use Rattle.law_frame.proofs.Alls.{all_append}
use Rattle.law_frame.proofs.Definitions.{changes_keep_defs}
use Rattle.law_frame.proofs.ChangeSets.{carries_change_set_out}
use Rattle.law_frame.proofs.UndoneTables.{UndoesAt, all_undone}
use Rattle.sql_reference.specs.declared.begun.Savepoint.{Savepoint}
use Rattle.sql_reference.specs.declared.begun.RunningScript.{RunningScript}
use Rattle.sql_reference.specs.Machine.{moved}
use Rattle.sql_reference.specs.Order.{InOrder}
use Rattle.sql_reference.specs.Seen.{HasPlaces, copy_at, with_defs, restored, first_defs, state_of, before, running_of, machine_of}
use Rattle.sql_reference.proofs.InScripts.{change_alone}
use Rattle.sql_reference.proofs.Running.{with_seq, ComesTo, comes_to}

-- ---- definitions in their places

abbrev all_versions : Tables → List (List Version)
all_versions T = map (λ t. t.versions) T

first_same : {A : Type 0} (x y : A) (xs ys : List A) → x ∷ xs ≡ y ∷ ys → x ≡ y
first_same x y xs ys e = cc

rest_same : {A : Type 0} (x y : A) (xs ys : List A) → x ∷ xs ≡ y ∷ ys → xs ≡ ys
rest_same x y xs ys e = cc

with_these : TableDef → List Version → Table
with_these def versions = record { def = def; versions = versions }

only_versions : (ds : Defs) (V W : Tables) → all_versions V ≡ all_versions W → with_defs ds V ≡ with_defs ds W
unfolding with_these
only_versions [] V W e = refl
only_versions (d ∷ ds) [] [] e = refl
only_versions (d ∷ ds) [] (w ∷ ws) e = cc
only_versions (d ∷ ds) (v ∷ vs) [] e = cc
only_versions (d ∷ ds) (v ∷ vs) (w ∷ ws) e =
    ap (λ (x : Table). x ∷ with_defs ds vs) (ap (with_these d) (first_same v.versions w.versions (all_versions vs) (all_versions ws) e))
    ∙ ap (λ (xs : Tables). with_def d w ∷ xs) (only_versions ds vs ws (rest_same v.versions w.versions (all_versions vs) (all_versions ws) e))

own_defs : (V : Tables) → with_defs (defs_of V) V ≡ V
own_defs [] = refl
own_defs (t ∷ ts) = ap (λ (xs : Tables). t ∷ xs) (own_defs ts)

without_more : (ds : Defs) (V W : Tables) → length ds ≤ length V → with_defs ds (V ++ W) ≡ with_defs ds V
without_more [] V W le = refl
without_more (d ∷ ds) [] W le = absurd (omega (arith, le))
without_more (d ∷ ds) (v ∷ vs) W le = ap (λ (xs : Tables). with_def d v ∷ xs) (without_more ds vs W (omega (arith, le)))

module _ (tx n : ℕ) where
  undone_defs : (T : Tables) → defs_of (undone tx n T) ≡ defs_of T
  unfolding undone
  undone_defs [] = refl
  undone_defs (t ∷ ts) = ap (λ (ds : Defs). t.def ∷ ds) (undone_defs ts)

  undone_length : (T : Tables) → length (undone tx n T) ≡ length T
  unfolding undone
  undone_length T = length-map T (with_versions (versions_undone tx n))

  undone_append : (T U : Tables) → undone tx n (T ++ U) ≡ undone tx n T ++ undone tx n U
  unfolding undone
  undone_append T U = map-append (with_versions (versions_undone tx n)) T U

  def_apart : (def : TableDef) (b : Bool) (t : Table) → versions_undone tx n (if b then with_def def t else t).versions ≡ versions_undone tx n t.versions
  def_apart def true t = refl
  def_apart def false t = refl

  redefined_versions : (def : TableDef) (U : Tables) → all_versions (undone tx n (redefined def U)) ≡ all_versions (undone tx n U)
  unfolding undone
  redefined_versions def [] = refl
  redefined_versions def (t ∷ ts) = rw (def_apart def (t.def.id == def.id) t, redefined_versions def ts) refl

  -- what becomes of the definitions doesn't matter
  defs_back : (d : Definition) (ds : Defs) (U : Tables) → length ds ≤ length U → with_defs ds (undone tx n (defined d U)) ≡ with_defs ds (undone tx n U)
  defs_back as_before ds U le = refl
  defs_back (new def) ds U le =
      let t : Table = record { def = def; versions = [] } in
      ap (with_defs ds) (undone_append U (t ∷ [])) ∙ without_more ds (undone tx n U) (undone tx n (t ∷ [])) (omega (arith, le, undone_length U))
  defs_back (in_place def) ds U le = only_versions ds (undone tx n (redefined def U)) (undone tx n U) (redefined_versions def U)
  defs_back (altered def) ds U le = only_versions ds (undone tx n (redefined def U)) (undone tx n U) (redefined_versions def U)

  -- ---- it only starts

  start_undoes : (id : ℕ) (values : List (Option TypedValue)) (T : Tables) → UndoesAt tx n T (id, Starts values)
  start_undoes id values [] = tt
  start_undoes id values (t ∷ ts) = ((λ e. tt), start_undoes id values ts)

  starts_undo : (id : ℕ) (columns : List ColumnDef) (rows : List Row) (T : Tables) → AllByRecursion (UndoesAt tx n T) (in_table id (map (λ row. Starts (stored_row columns row)) rows))
  starts_undo id columns [] T = tt
  starts_undo id columns (r ∷ rs) T = (start_undoes id (stored_row columns r) T, starts_undo id columns rs T)

  table_undoes : (T : Tables) (m : Checked TableDef) → AllByRecursion (UndoesAt tx n T) (create_table_change_set m).changes
  table_undoes T (Ok def) = all_append (UndoesAt tx n T) (in_table tables_id (table_start def)) (in_table columns_id (column_starts (column_rows def)))
      (start_undoes tables_id (stored_row tables_columns (table_row def)) T, tt) (starts_undo columns_id columns_columns (column_rows def) T)
  table_undoes T (Err e) = tt

  index_undoes : (T : Tables) (m : Checked (TableDef × IndexDef)) → AllByRecursion (UndoesAt tx n T) (create_index_change_set m).changes
  index_undoes T (Ok x) = starts_undo columns_id columns_columns (index_rows x.0.id (length x.0.indexes + 1) x.1) T
  index_undoes T (Err e) = tt

  alter_undoes : (T : Tables) (change : WithColumn → ℕ) (m : Checked WithColumn)
      → AllByRecursion (UndoesAt tx n T) (altered_change_set (and_then m (λ x. Ok (altered_table (change x) x)))).changes
  alter_undoes T change (Ok x) = (start_undoes columns_id (stored_row columns_columns (changed_column_row (change x) x.0 x.1)) T, tt)
  alter_undoes T change (Err e) = tt

  drop_undoes : (T : Tables) (change : TableDef → ℕ) (m : Checked TableDef)
      → AllByRecursion (UndoesAt tx n T) (altered_change_set (and_then m (λ def. Ok (gone_table (change def) def)))).changes
  drop_undoes T change (Ok def) = (start_undoes tables_id (stored_row tables_columns (changed_table_row (change def) def)) T, tt)
  drop_undoes T change (Err e) = tt

  create_undoes : (T : Tables) (stmt : Stmt) → creates stmt ≡ true → AllByRecursion (UndoesAt tx n T) (change_set T stmt).changes
  unfolding change_set
  create_undoes T (s.Create c) e = table_undoes T (create_check (defs_of T) c)
  create_undoes T (s.Index c) e = index_undoes T (index_check (defs_of T) c)
  create_undoes T (s.Alter a) e =
      alter_undoes T (λ x. next_change x.0.id (versions_of T tables_id) (versions_of T columns_id)) (alter_check (defs_of T) a)
  create_undoes T (s.Drop name) e =
      drop_undoes T (λ def. next_change def.id (versions_of T tables_id) (versions_of T columns_id)) (drop_check (defs_of T) name)
  create_undoes T (s.Change stmt) e = cc
  create_undoes T (s.Select q) e = cc
  create_undoes T s.Begin e = cc
  create_undoes T s.Commit e = cc
  create_undoes T (s.Save name) e = cc
  create_undoes T (s.Rollback name) e = cc
  create_undoes T s.Digest e = cc
  create_undoes T s.Image e = cc

  -- with the definitions from before it, or from longer ago
  pub create_back : (seq : ℕ) (T : Tables) (stmt : Stmt) (ds : Defs) → n ≤ seq → creates stmt ≡ true → length ds ≤ length T → with_defs ds (undone tx n (effect T tx seq stmt).tables) ≡ with_defs ds (undone tx n T)
  create_back seq T stmt ds le k few =
      let cs : List TableChange = (change_set T stmt).changes in
      let U : Tables = changed_from tx seq cs T in
      let long : length U ≡ length T = sym (length-map U (λ (t : Table). t.def)) ∙ ap (λ (xs : Defs). length xs) (changes_keep_defs tx seq cs T) ∙ length-map T (λ (t : Table). t.def) in
      ap (λ (e : Effect). with_defs ds (undone tx n e.tables)) (carries_change_set_out T tx seq stmt)
      ∙ defs_back (change_set T stmt).definition ds U (omega (arith, few, long))
      ∙ ap (with_defs ds) (all_undone tx n seq le cs T (create_undoes T stmt k))

  pub first_back : (seq : ℕ) (T : Tables) (stmt : Stmt) → n ≤ seq → creates stmt ≡ true → with_defs (defs_of T) (undone tx n (effect T tx seq stmt).tables) ≡ undone tx n T
  first_back seq T stmt le k =
      create_back seq T stmt (defs_of T) le k (omega (arith, length-map T (λ (t : Table). t.def)))
      ∙ ap (λ (ds : Defs). with_defs ds (undone tx n T)) (sym (undone_defs T))
      ∙ own_defs (undone tx n T)

-- ---- the script

restored_back : (tx seq : ℕ) (T : Tables) (stmt : Stmt) (o : Option Defs) → creates stmt ≡ true → HasPlaces o T → restored (first_defs o (defs_of T)) (undone tx 0 (effect T tx seq stmt).tables) ≡ restored o (undone tx 0 T)
restored_back tx seq T stmt None k few = first_back tx 0 seq T stmt (omega arith) k
restored_back tx seq T stmt (Some ds) k few = create_back tx 0 seq T stmt ds (omega arith) k few

no_saved : (tx : ℕ) (T : Tables) (saved : List Savepoint) → map (copy_at tx T) saved ≡ [] → saved ≡ []
no_saved tx T [] e = refl
no_saved tx T (s ∷ ss) e = cc

module _ (T : Tables) (b : RunningScript) (h : InOrder (machine_of T (Some b))) where
  none_saved : b.explicit ≡ false → b.saved ≡ []
  unfolding state_of
  none_saved o = no_saved b.tx T b.saved (h.script.alone o)

  pub creates_alone : (stmt : Stmt) → creates stmt ≡ true → b.explicit ≡ false → HasPlaces b.defs T
      → (let e : Effect = effect T b.tx b.seq stmt in ComesTo e.tables (with_seq b e.seq (first_defs b.defs (defs_of T))) (moved (machine_of T (Some b)) (running_of T b) (by_effect (state_of T b) e).0))
  unfolding state_of before
  creates_alone stmt k o few =
      let e : Effect = effect T b.tx b.seq stmt in
      let first : restored (first_defs b.defs (defs_of T)) (undone b.tx 0 e.tables) ≡ restored b.defs (undone b.tx 0 T) = restored_back b.tx b.seq T stmt b.defs k few in
      let copies : map (copy_at b.tx e.tables) b.saved ≡ map (copy_at b.tx T) b.saved =
      ap (map (copy_at b.tx e.tables)) (none_saved o) ∙ ap (map (copy_at b.tx T)) (sym (none_saved o)) in
      comes_to e.tables (with_seq b e.seq (first_defs b.defs (defs_of T))) (moved (machine_of T (Some b)) (running_of T b) (by_effect (state_of T b) e).0)
      (rw (first, copies) refl) (record { steady = h.steady; script = change_alone (running_of T b) h.script stmt (h.script.alone o) })
