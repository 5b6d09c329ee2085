-- No statement ends a version of an append-only table.
use Rattle.std.proofs.Common.{◌≡◌, ◌∙◌, ◌⊎◌, ℕ, ◌+◌, refl, sym, ap, subst, Bool, true, false, List, [], ◌∷◌, map, length, Some, None, Ok, Err, inl, inr}
use Rattle.std.proofs.lemmas.Bool.{eqb-true}
use Rattle.std.specs.Prelude.{◌==◌, if◌then◌else◌}
use Rattle.std.specs.List.{AllByRecursion}
use Rattle.sql_value.specs.declared.column.TableKind.{TableKind}
use Rattle.sql_value.specs.declared.column.TableKind.TheVariants.{AppendOnly, Updatable}
use Rattle.sql_value.specs.declared.refusal.Refusal.TheVariants.{NameConflict, AppendOnlyTable, ReadOnlyTable}
use Rattle.sql_types.specs.declared.statement.Alter.{Alter}
use Rattle.sql_types.specs.declared.statement.RowStmt.{RowStmt}
use Rattle.sql_types.specs.declared.statement.RowStmt.TheVariants.{Insert, Update, Delete}
use Rattle.sql_types.specs.declared.statement.CreateIndex.{CreateIndex}
use Rattle.sql_types.specs.declared.statement.Select.{Select}
use Rattle.sql_types.specs.declared.statement.Stmt.{Stmt}
use Rattle.sql_types.specs.declared.statement.Stmt.TheVariants as s
use Rattle.sql_types.specs.declared.table.IndexDef.{IndexDef}
use Rattle.sql_types.specs.declared.table.Part.{Part}
use Rattle.sql_types.specs.declared.table.TableDef.{TableDef}
use Rattle.sql_types.specs.declared.version.Table.{Table}
use Rattle.sql_types.specs.declared.version.Version.{Version}
use Rattle.spec_model.specs.Refusals.{Checked}
use Rattle.spec_model.specs.Rows.{Row, start_cmp, started, stored_row}
use Rattle.spec_model.specs.Changes.{Change, Starts, Ends, Changes, changed_all, written_names, inserted_rows, insertion, row_changes}
use Rattle.spec_model.specs.Catalog.{Defs, NamedPart, Tables, defs_of, find_part, versions_of, with_versions, changed_table}
use Rattle.spec_model.specs.Checks.{refused_if, is_append_only, row_check, update_check, delete_check, row_statement_check}
use Rattle.spec_model.specs.Query.{query_check}
use Rattle.spec_model.specs.SystemTables.{tables_id, columns_id, columns_columns, column_rows, index_rows}
use Rattle.spec_model.specs.Create.{create_check, index_check, with_index}
use Rattle.spec_model.specs.Effect.{effect, done, row_effect, shown, query_rows, query_effect, table_start, column_starts, table_effect, with_system_rows, with_def, redefined, index_starts, index_effect, altered_effect}
use Rattle.spec_model.specs.Alter.{Altered, alteration, table_drop}
use Rattle.spec_model.specs.Agreement.{IdsFrom}
use Rattle.spec_model.specs.Runs.{Sound}
use Rattle.spec_model.specs.Script.{Reading, script}
use Rattle.law_frame.specs.Alters.{Altering}
use Rattle.law_frame.proofs.Alterations.{alteration_alters, drop_alters}
use Rattle.law_frame.proofs.Alls.{all_append, all_inserted, all_map}
use Rattle.law_frame.proofs.Checked.{Led, led}
use Rattle.law_frame.proofs.Definitions.{same_defs}
use Rattle.law_frame.proofs.NamedPart.{Passed, passed}
use Rattle.law_frame.proofs.SoundStatements.{statement_sound}
use Rattle.law_frame.proofs.WholeScripts.{whole_script}
use Rattle.law_journal.specs.AppendOnly.{KeepsRows, AllKeepRows}
use Rattle.law_journal.specs.Fine.{OfTable}
use Rattle.law_journal.proofs.Altered.{by_alter, by_drop, only_old}
use Rattle.law_journal.proofs.Created.{Indexed, indexed}
use Rattle.law_journal.proofs.DefLists.{IsOnly, is_listed_once}
use Rattle.law_journal.proofs.Lift.{found_table, of_weaker}

abbrev IsLive : Version → Type 0
IsLive v = v.end ≡ None

-- ---- changes that start rows alone

abbrev IsStart : Change → Type 0
IsStart (Starts values) = Unit {0}
IsStart (Ends start) = ⊥

all_starts : {A : Type 0} (f : A → Change) → ((x : A) → IsStart (f x)) → (xs : List A) → AllByRecursion IsStart (map f xs)
all_starts f h [] = tt
all_starts f h (x ∷ xs) = (h x, all_starts f h xs)

all_still_live : (tx seq : ℕ) (cs : List Change) → AllByRecursion IsStart cs → (vs : List Version) → AllByRecursion IsLive vs → AllByRecursion IsLive (changed_all tx seq cs vs)
unfolding changed_all started
all_still_live tx seq [] a vs h = h
all_still_live tx seq (Starts values ∷ cs) a vs h = all_still_live tx (seq + 1) cs a.1 _ (all_inserted IsLive start_cmp _ vs refl h)
all_still_live tx seq (Ends start ∷ cs) a vs h = absurd a.0

in_one : (f : List Version → List Version) (b : Bool) (t : Table) → (AllByRecursion IsLive t.versions → AllByRecursion IsLive (f t.versions)) → KeepsRows t → KeepsRows (if b then with_versions f t else t)
in_one f true t g h = λ k. g (h k)
in_one f false t g h = h

pub starts_keep : (id tx seq : ℕ) (cs : List Change) → AllByRecursion IsStart cs → (T : Tables) → AllKeepRows T → AllKeepRows (changed_table id (changed_all tx seq cs) T)
starts_keep id tx seq cs a T h =
    all_map KeepsRows KeepsRows (λ t. if t.def.id == id then with_versions (changed_all tx seq cs) t else t)
    (λ t k. in_one (changed_all tx seq cs) (t.def.id == id) t (all_still_live tx seq cs a t.versions) k) T h

-- ---- other changes, in a table that may be updated

append_and_update : AppendOnly ≡ Updatable → ⊥
append_and_update e = cc

elsewhere : (f : List Version → List Version) (x : TableDef) → x.kind ≡ Updatable → (b : Bool) (t : Table) → (t.def.id == x.id) ≡ b → IsOnly x t.def → KeepsRows t
    → KeepsRows (if b then with_versions f t else t)
elsewhere f x u true t e only h =
    λ k. absurd (append_and_update (sym k ∙ ap (λ (d : TableDef). d.kind) (only (eqb-true t.def.id x.id e)) ∙ u))
elsewhere f x u false t e only h = h

others_keep : (f : List Version → List Version) (x : TableDef) → x.kind ≡ Updatable → (T : Tables) → AllByRecursion (IsOnly x) (defs_of T) → AllKeepRows T
    → AllKeepRows (changed_table x.id f T)
others_keep f x u [] o h = tt
others_keep f x u (t ∷ ts) o h = (elsewhere f x u (t.def.id == x.id) t refl o.0 h.0, others_keep f x u ts o.1 h.1)

-- ---- INSERT, UPDATE and DELETE

two_passed : (a b : Bool) (k : TableKind) (rest : Checked (Unit {0})) → refused_if a NameConflict (refused_if b ReadOnlyTable (refused_if (is_append_only k) AppendOnlyTable rest)) ≡ Ok tt → k ≡ Updatable
two_passed true b k rest e = cc
two_passed false true k rest e = cc
two_passed false false AppendOnly rest e = cc
two_passed false false Updatable rest e = refl

one_passed : (b : Bool) (k : TableKind) (rest : Checked (Unit {0})) → refused_if b ReadOnlyTable (refused_if (is_append_only k) AppendOnlyTable rest) ≡ Ok tt → k ≡ Updatable
one_passed true k rest e = cc
one_passed false AppendOnly rest e = cc
one_passed false Updatable rest e = refl

starts_or_updates : (def : TableDef) (part : Part) (vs : List Version) (stmt : RowStmt) (c : Changes) → row_check stmt def part ≡ Ok tt → row_changes def vs stmt ≡ Ok c
    → (def.kind ≡ Updatable) ⊎ AllByRecursion IsStart c.0
unfolding row_changes update_check delete_check
starts_or_updates def part vs (Insert table names rows) c check is =
    let l : Led (inserted_rows def.columns vs (written_names def names) rows) (λ kept. Ok (insertion def.columns kept)) c = led _ _ c is in
    let made : insertion def.columns l.value ≡ c = cc in
    inr (subst (λ (x : Changes). AllByRecursion IsStart x.0) made (all_starts (λ row. Starts (stored_row def.columns row)) (λ row. tt) l.value))
starts_or_updates def part vs (Update table sets cond) c check is = inl (two_passed _ _ def.kind _ check)
starts_or_updates def part vs (Delete table cond) c check is = inl (one_passed _ def.kind _ check)

only_found : (T : Tables) (name : List ℕ) (found : NamedPart) (def : TableDef) → IdsFrom 1 (defs_of T) → find_part (defs_of T) name ≡ Some found → found.0 ≡ def
    → AllByRecursion (IsOnly def) (defs_of T)
only_found T name found def ids by_name is =
    let f = (found_table 1 T name found ids by_name).there in
    let there : OfTable found.0.id (λ t. t.def ≡ found.0) T = of_weaker found.0.id (λ t. (t.def ≡ found.0) × (t.versions ≡ versions_of T found.0.id)) (λ t. t.def ≡ found.0) T (λ t k. k.0) f in
    subst (λ (d : TableDef). AllByRecursion (IsOnly d) (defs_of T)) is (is_listed_once 1 found.0 T ids there).only

module _ (T : Tables) (tx seq : ℕ) (ids : IdsFrom 1 (defs_of T)) (h : AllKeepRows T) where
  done_keeps : (stmt : RowStmt) (def : TableDef) (m : Checked Changes) → row_statement_check (defs_of T) stmt ≡ Ok def → row_changes def (versions_of T def.id) stmt ≡ m
      → AllKeepRows (done T tx seq def.id m).tables
  done_keeps stmt def (Err e) check is = h
  done_keeps stmt def (Ok c) check is =
      let p : Passed (defs_of T) stmt def = passed (defs_of T) stmt def check in
      let checked : row_check stmt def p.found.1 ≡ Ok tt = subst (λ (d : TableDef). row_check stmt d p.found.1 ≡ Ok tt) p.is p.check in
      elim (starts_or_updates def p.found.1 (versions_of T def.id) stmt c checked is) [
        | inl updates ↦ others_keep (changed_all tx seq c.0) def updates T (only_found T _ p.found def ids p.by_name p.is) h
        | inr starts ↦ starts_keep def.id tx seq c.0 starts T h
      ]

  row_keeps : (stmt : RowStmt) (m : Checked TableDef) → row_statement_check (defs_of T) stmt ≡ m → AllKeepRows (row_effect T tx seq stmt m).tables
  row_keeps stmt (Err e) check = h
  row_keeps stmt (Ok def) check = done_keeps stmt def (row_changes def (versions_of T def.id) stmt) check refl

  shown_keeps : (m : Checked (List Row)) → AllKeepRows (shown T seq m).tables
  shown_keeps (Ok rows) = h
  shown_keeps (Err e) = h

  query_keeps : (q : Select) (m : Checked NamedPart) → AllKeepRows (query_effect T seq q m).tables
  query_keeps q (Ok n) = shown_keeps (query_rows q n (versions_of T n.0.id))
  query_keeps q (Err e) = h

  -- ---- CREATE TABLE and CREATE INDEX

  column_starts_start : (rows : List Row) → AllByRecursion IsStart (column_starts rows)
  column_starts_start rows = all_starts (λ row. Starts (stored_row columns_columns row)) (λ row. tt) rows

  table_keeps : (m : Checked TableDef) → AllKeepRows (table_effect T tx seq m).tables
  table_keeps (Err e) = h
  table_keeps (Ok def) =
      let first = starts_keep tables_id tx seq (table_start def) (tt, tt) T h in
      let both = starts_keep columns_id tx (seq + 1) (column_starts (column_rows def)) (column_starts_start (column_rows def)) _ first in
      all_append KeepsRows _ (record { def = def; versions = [] } ∷ []) both ((λ k. tt), tt)

  redefined_keeps : (x def : TableDef) → def.id ≡ x.id → def.kind ≡ x.kind → (U : Tables) → AllByRecursion (IsOnly x) (defs_of U) → AllKeepRows U → AllKeepRows (redefined def U)
  redefined_keeps x def same like [] o k = tt
  redefined_keeps x def same like (t ∷ ts) o k = (here (t.def.id == def.id) refl, redefined_keeps x def same like ts o.1 k.1)
    where
      here : (b : Bool) → (t.def.id == def.id) ≡ b → KeepsRows (if b then with_def def t else t)
      here true e = λ kind. k.0 (ap (λ (d : TableDef). d.kind) (o.0 (eqb-true t.def.id def.id e ∙ same)) ∙ sym like ∙ kind)
      here false e = k.0

  index_keeps : (c : CreateIndex) (m : Checked (TableDef × IndexDef)) → index_check (defs_of T) c ≡ m → AllKeepRows (index_effect T tx seq m).tables
  unfolding index_rows
  index_keeps c (Err e) check = h
  index_keeps c (Ok x) check =
      let i : Indexed (defs_of T) x = indexed (defs_of T) c x check in
      let only = only_found T i.table i.found x.0 ids i.by_name i.is in
      let U = with_system_rows tx seq [] (index_starts x.0 x.1) T in
      let defs : defs_of U ≡ defs_of T = same_defs columns_id _ _ ∙ same_defs tables_id (changed_all tx seq []) T in
      let first = starts_keep tables_id tx seq [] tt T h in
      let both = starts_keep columns_id tx (seq + 0) (index_starts x.0 x.1) (column_starts_start _) _ first in
      redefined_keeps x.0 (with_index x.0 x.1) refl refl U (subst (λ (ds : Defs). AllByRecursion (IsOnly x.0) ds) (sym defs) only) both

  -- ---- ALTER TABLE and DROP TABLE

  abbrev StartAlone : Altered → Type 0
  StartAlone a = AllByRecursion IsStart a.first × AllByRecursion IsStart a.second

  altered_keeps : (m : Checked Altered) → ((a : Altered) → m ≡ Ok a → Altering (defs_of T) a.def × StartAlone a) → AllKeepRows (altered_effect T tx seq m).tables
  altered_keeps (Err e) f = h
  altered_keeps (Ok a) f =
      let g : Altering (defs_of T) a.def × StartAlone a = f a refl in
      let U = with_system_rows tx seq a.first a.second T in
      let defs : defs_of U ≡ defs_of T = same_defs columns_id _ _ ∙ same_defs tables_id (changed_all tx seq a.first) T in
      let first = starts_keep tables_id tx seq a.first g.1.0 T h in
      let both = starts_keep columns_id tx (seq + length a.first) a.second g.1.1 _ first in
      redefined_keeps g.0.old a.def g.0.alters.id g.0.alters.kind U (subst (λ (ds : Defs). AllByRecursion (IsOnly g.0.old) ds) (sym defs) (only_old T a.def ids g.0)) both

  alter_keeps : (y : Alter) → AllKeepRows (altered_effect T tx seq (alteration (defs_of T) (versions_of T tables_id) (versions_of T columns_id) y)).tables
  alter_keeps y =
      altered_keeps (alteration (defs_of T) (versions_of T tables_id) (versions_of T columns_id) y)
      (λ a e. (
        alteration_alters (defs_of T) (versions_of T tables_id) (versions_of T columns_id) y a e,
        by_alter (defs_of T) (versions_of T tables_id) (versions_of T columns_id) StartAlone y a e (λ x check. (tt, (tt, tt))),
      ))

  drop_keeps : (name : List ℕ) → AllKeepRows (altered_effect T tx seq (table_drop (defs_of T) (versions_of T tables_id) (versions_of T columns_id) name)).tables
  drop_keeps name =
      altered_keeps (table_drop (defs_of T) (versions_of T tables_id) (versions_of T columns_id) name)
      (λ a e. (
        drop_alters (defs_of T) (versions_of T tables_id) (versions_of T columns_id) name a e,
        by_drop (defs_of T) (versions_of T tables_id) (versions_of T columns_id) StartAlone name a e (λ def check. ((tt, tt), tt)),
      ))

  pub statement_keeps_rows : (stmt : Stmt) → AllKeepRows (effect T tx seq stmt).tables
  unfolding effect
  statement_keeps_rows (s.Create c) = table_keeps (create_check (defs_of T) c)
  statement_keeps_rows (s.Index c) = index_keeps c (index_check (defs_of T) c) refl
  statement_keeps_rows (s.Alter a) = alter_keeps a
  statement_keeps_rows (s.Drop name) = drop_keeps name
  statement_keeps_rows (s.Change stmt) = row_keeps stmt (row_statement_check (defs_of T) stmt) refl
  statement_keeps_rows (s.Select q) = query_keeps q (query_check (defs_of T) q)
  statement_keeps_rows s.Begin = h
  statement_keeps_rows s.Commit = h
  statement_keeps_rows (s.Save name) = h
  statement_keeps_rows (s.Rollback name) = h
  statement_keeps_rows s.Digest = h
  statement_keeps_rows s.Image = h

-- ---- scripts

abbrev pub SoundAndKept : ℕ → ℕ → Tables → Type 0
SoundAndKept tx seq T = Sound tx seq T × AllKeepRows T

pub script_keeps_rows : (tx : ℕ) (reads : Reading) (explicit : Bool) (T : Tables) (texts : List (List ℕ)) → Sound tx 0 T → AllKeepRows T
    → AllKeepRows (script reads explicit T tx texts).state.tables
script_keeps_rows tx reads explicit T texts sound h =
    (whole_script tx (SoundAndKept tx)
    (λ seq U stmt a. (statement_sound tx seq U stmt a.0, statement_keeps_rows U tx seq a.0.ids a.1 stmt)) reads explicit T texts (sound, h)).0.1
