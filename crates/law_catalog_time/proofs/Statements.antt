-- Each statement keeps that versions start after the rows that CREATE TABLE entered for their columns.
use Rattle.std.proofs.Common.{◌≡◌, ◌≤◌, ◌<◌, ℕ, ◌+◌, ◌*◌, refl, sym, ap, subst, ◌∙◌, ⊎_elim, Bool, true, false, List, [], ◌∷◌, ◌++◌, map, length, Ok, Err, arith}
use Rattle.std.proofs.lemmas.Bool.{eqb-true}
use Rattle.std.specs.Prelude.{◌==◌, if◌then◌else◌}
use Rattle.std.specs.List.{AllByRecursion}
use Rattle.sql_value.specs.declared.column.ColumnDef.{ColumnDef}
use Rattle.sql_types.specs.declared.statement.Alter.{Alter}
use Rattle.sql_types.specs.declared.statement.CreateTable.{CreateTable}
use Rattle.sql_types.specs.declared.statement.RowStmt.{RowStmt}
use Rattle.sql_types.specs.declared.statement.Select.{Select}
use Rattle.sql_types.specs.declared.statement.Stmt.{Stmt}
use Rattle.sql_types.specs.declared.statement.Stmt.TheVariants as s
use Rattle.sql_types.specs.declared.table.IndexDef.{IndexDef}
use Rattle.sql_types.specs.declared.table.TableDef.{TableDef}
use Rattle.sql_types.specs.declared.version.Table.{Table}
use Rattle.sql_types.specs.declared.version.Version.{Version}
use Rattle.spec_model.specs.Refusals.{Checked}
use Rattle.spec_model.specs.Lists.{numbered}
use Rattle.spec_model.specs.Rows.{Row, EventId, number, same_event, start_cmp, started, stored_row, with_end, ended}
use Rattle.spec_model.specs.Keys.{same_key, version_key}
use Rattle.spec_model.specs.Changes.{Change, Changes, Starts, Ends, changed, row_changes}
use Rattle.spec_model.specs.Catalog.{Defs, NamedPart, Tables, defs_of, versions_of, with_versions}
use Rattle.spec_model.specs.Checks.{row_statement_check}
use Rattle.spec_model.specs.Query.{query_check}
use Rattle.spec_model.specs.SystemTables.{tables_id, columns_id, columns_columns, column_row, column_rows, index_row, index_rows, changed_column_row}
use Rattle.spec_model.specs.Create.{create_check, index_check}
use Rattle.spec_model.specs.Effect.{Effect, effect, query_rows, table_start, column_starts, with_def, redefined}
use Rattle.spec_model.specs.Alter.{WithColumn, next_change, Altered, alteration, table_drop}
use Rattle.spec_model.specs.ChangeSets.{TableChange, in_table, changed_in, changed_from, Definition, as_before, new, in_place, altered, defined, ChangeSet, row_change_set, row_stmt_change_set, select_change_set, query_change_set, create_table_change_set, create_index_change_set, altered_change_set, change_set}
use Rattle.spec_model.specs.Agreement.{IdsFrom}
use Rattle.law_frame.proofs.Alls.{all_weaker, all_both, all_append, all_map, all_inserted}
use Rattle.law_frame.proofs.AtTable.{changed_at, new_table, redefined_table}
use Rattle.law_frame.proofs.BaseTables.{users_table}
use Rattle.law_frame.proofs.Definitions.{same_defs}
use Rattle.law_frame.proofs.ChangeSets.{carries_change_set_out}
use Rattle.law_frame.proofs.SameKeys.{same_itself}
use Rattle.law_journal.specs.Fine.{key_in, AllFine}
use Rattle.law_journal.specs.Kept.{IsEarlier, IsPast, KeptTable, Kept}
use Rattle.law_journal.specs.Described.{Described}
use Rattle.law_journal.proofs.Altered.{by_alter, by_drop}
use Rattle.law_journal.proofs.Created.{Created, created}
use Rattle.law_journal.proofs.DefLists.{all_defs}
use Rattle.law_journal.proofs.NumberKeys.{same_first, column_key, index_key, changed_column_key}
use Rattle.law_journal.proofs.Order.{new_version}
use Rattle.law_journal.proofs.Statements.{change_set_fine}
use Rattle.law_journal.proofs.Tables.{kept_changed}
use Rattle.law_catalog_time.specs.AfterColumns.{IsKeyOfColumn, StartsAfterColumns, AllStartAfterColumns, VersionsFollowColumns}

-- ---- one change

-- a start of such a row isn't about a column of this table
abbrev IsNotOfColumn : Change → ℕ → Type 0
IsNotOfColumn (Starts values) id = IsKeyOfColumn id (key_in columns_columns values) → ⊥
IsNotOfColumn (Ends start) id = Unit {0}

-- where it is a start in the table of columns, it isn't about a column of one of the tables that there are
abbrev IsNotOfColumns : Defs → TableChange → Type 0
IsNotOfColumns defs c = c.0 ≡ columns_id → AllByRecursion (λ (d : TableDef). 2 < d.id → IsNotOfColumn c.1 d.id) defs

found_all : (P : Version → Type 0) (b : Bool) (vs ws : List Version) → AllByRecursion P vs → AllByRecursion P ws → AllByRecursion P (if b then vs else ws)
found_all P true vs ws h k = h
found_all P false vs ws h k = k

pub past_at : (place : ℕ → ℕ) (now : EventId) (i : ℕ) (T : Tables) → AllByRecursion (KeptTable place now) T → AllByRecursion (IsPast place now) (versions_of T i)
past_at place now i [] h = tt
past_at place now i (t ∷ ts) h = found_all (IsPast place now) (t.def.id == i) t.versions (versions_of ts i) h.0.past (past_at place now i ts h.1)

module _ (place : ℕ → ℕ) where
  -- ---- rows of the table itself

  behind_ended : (second : List Version) (id : ℕ) (at : EventId) (b : Bool) (v : Version) → StartsAfterColumns place second id v → StartsAfterColumns place second id (if b then with_end at v else v)
  behind_ended second id at true v h = h
  behind_ended second id at false v h = h

  own_changed : (second : List Version) (id : ℕ) (now : EventId) (c : Change) (vs : List Version) → AllByRecursion (IsPast place now) second → AllByRecursion (StartsAfterColumns place second id) vs
      → AllByRecursion (StartsAfterColumns place second id) (changed now c vs)
  unfolding started ended
  own_changed second id now (Starts values) vs past h =
      all_inserted (StartsAfterColumns place second id) start_cmp (new_version now values) vs
      (all_weaker (IsPast place now) (λ w. IsKeyOfColumn id (version_key columns_columns w) → IsEarlier place w.start now) (λ w p k. p.start) second past) h
  own_changed second id now (Ends start) vs past h =
      all_map (StartsAfterColumns place second id) (StartsAfterColumns place second id) (λ v. if same_event v.start start then with_end now v else v)
      (λ v k. behind_ended second id now (same_event v.start start) v k) vs h

  in_table_follows : (second : List Version) (now : EventId) (c : Change) (b : Bool) (t : Table) → AllByRecursion (IsPast place now) second → AllStartAfterColumns place second t
      → AllStartAfterColumns place second (if b then with_versions (changed now c) t else t)
  in_table_follows second now c true t past h = λ lt. own_changed second t.def.id now c t.versions past (h lt)
  in_table_follows second now c false t past h = h

  -- ---- rows of the table of columns

  row_ended : (id : ℕ) (v : Version) (at : EventId) (b : Bool) (w : Version) → (IsKeyOfColumn id (version_key columns_columns w) → IsEarlier place w.start v.start)
      → let u : Version = if b then with_end at w else w in (IsKeyOfColumn id (version_key columns_columns u) → IsEarlier place u.start v.start)
  row_ended id v at true w h = h
  row_ended id v at false w h = h

  behind_changed : (second : List Version) (id : ℕ) (now : EventId) (c : Change) (v : Version) → IsNotOfColumn c id → StartsAfterColumns place second id v → StartsAfterColumns place (changed now c second) id v
  unfolding started ended
  behind_changed second id now (Starts values) v none h =
      all_inserted (λ w. IsKeyOfColumn id (version_key columns_columns w) → IsEarlier place w.start v.start) start_cmp (new_version now values) second (λ k. absurd (none k)) h
  behind_changed second id now (Ends start) v none h =
      all_map (λ w. IsKeyOfColumn id (version_key columns_columns w) → IsEarlier place w.start v.start) (λ w. IsKeyOfColumn id (version_key columns_columns w) → IsEarlier place w.start v.start)
      (λ w. if same_event w.start start then with_end now w else w) (λ w k. row_ended id v now (same_event w.start start) w k) second h

  rows_follow : (second : List Version) (now : EventId) (c : Change) (t : Table) → (2 < t.def.id → IsNotOfColumn c t.def.id) → AllStartAfterColumns place second t → AllStartAfterColumns place (changed now c second) t
  rows_follow second now c t none h = λ lt. all_weaker (StartsAfterColumns place second t.def.id) (StartsAfterColumns place (changed now c second) t.def.id) (λ v k. behind_changed second t.def.id now c v (none lt) k) t.versions (h lt)

  -- a user's table isn't the table of columns
  not_changed : (id : ℕ) (f : List Version → List Version) (second : List Version) (t : Table) (b : Bool) → (t.def.id == id) ≡ b → id ≡ columns_id → AllStartAfterColumns place second t
      → AllStartAfterColumns place second (if b then with_versions f t else t)
  not_changed id f second t true e is h = λ lt. absurd (let same = eqb-true t.def.id id e in omega (arith, same, is, lt))
  not_changed id f second t false e is h = h

  module _ (tx seq : ℕ) where
    changed_follows : (c : TableChange) (T : Tables) → Kept place tx seq T → IsNotOfColumns (defs_of T) c → VersionsFollowColumns place T → VersionsFollowColumns place (changed_in (tx, seq) c T)
    changed_follows c T k none h =
        let S : List Version = versions_of T columns_id in
        let past : AllByRecursion (IsPast place (tx, seq)) S = past_at place (tx, seq) columns_id T k.each in
        ⊎_elim
        (λ (same : versions_of (changed_in (tx, seq) c T) columns_id ≡ S).
        subst (λ (second : List Version). AllByRecursion (AllStartAfterColumns place second) (changed_in (tx, seq) c T)) (sym same)
        (all_map (AllStartAfterColumns place S) (AllStartAfterColumns place S) (λ t. if t.def.id == c.0 then with_versions (changed (tx, seq) c.1) t else t)
        (λ t j. in_table_follows S (tx, seq) c.1 (t.def.id == c.0) t past j) T h))
        (λ (own : (c.0 ≡ columns_id) × (versions_of (changed_in (tx, seq) c T) columns_id ≡ changed (tx, seq) c.1 S)).
        subst (λ (second : List Version). AllByRecursion (AllStartAfterColumns place second) (changed_in (tx, seq) c T)) (sym own.1)
        (all_map (AllStartAfterColumns place (changed (tx, seq) c.1 S)) (AllStartAfterColumns place (changed (tx, seq) c.1 S)) (λ t. if t.def.id == c.0 then with_versions (changed (tx, seq) c.1) t else t)
        (λ t j. not_changed c.0 (changed (tx, seq) c.1) (changed (tx, seq) c.1 S) t (t.def.id == c.0) refl own.0 j) T
        (all_weaker (λ t. (2 < t.def.id → IsNotOfColumn c.1 t.def.id) × AllStartAfterColumns place S t) (AllStartAfterColumns place (changed (tx, seq) c.1 S)) (λ t j. rows_follow S (tx, seq) c.1 t j.0 j.1) T
        (all_both (λ t. 2 < t.def.id → IsNotOfColumn c.1 t.def.id) (AllStartAfterColumns place S) T (all_defs (λ (d : TableDef). 2 < d.id → IsNotOfColumn c.1 d.id) T (none own.0)) h))))
        (changed_at c.0 columns_id (changed (tx, seq) c.1) T)

  module _ (tx : ℕ) where
    all_follow : (seq : ℕ) (cs : List TableChange) (T : Tables) → Kept place tx seq T → AllFine tx seq cs T → AllByRecursion (IsNotOfColumns (defs_of T)) cs → VersionsFollowColumns place T
        → VersionsFollowColumns place (changed_from tx seq cs T)
    all_follow seq [] T k fine none h = h
    all_follow seq (c ∷ cs) T k fine none h =
        all_follow (seq + 1) cs (changed_in (tx, seq) c T) (kept_changed place tx seq c T k fine.0) fine.1
        (subst (λ (ds : Defs). AllByRecursion (IsNotOfColumns ds) cs) (sym (same_defs c.0 (changed (tx, seq) c.1) T)) none.1)
        (changed_follows tx seq c T k none.0 h)

  -- ---- definitions

  in_its_place : (second : List Version) (def : TableDef) (b : Bool) (t : Table) → (t.def.id == def.id) ≡ b → AllStartAfterColumns place second t → AllStartAfterColumns place second (if b then with_def def t else t)
  in_its_place second def true t e k =
      let same : t.def.id ≡ def.id = eqb-true t.def.id def.id e in
      λ lt. subst (λ (n : ℕ). AllByRecursion (StartsAfterColumns place second n) t.versions) same (k (omega (arith, same, lt)))
  in_its_place second def false t e k = k

  redefined_follow : (def : TableDef) (U : Tables) → VersionsFollowColumns place U → VersionsFollowColumns place (redefined def U)
  redefined_follow def U h =
      let S : List Version = versions_of U columns_id in
      subst (λ (second : List Version). AllByRecursion (AllStartAfterColumns place second) (redefined def U)) (sym (redefined_table def columns_id U))
      (all_map (AllStartAfterColumns place S) (AllStartAfterColumns place S) (λ t. if t.def.id == def.id then with_def def t else t) (λ t k. in_its_place S def (t.def.id == def.id) t refl k) U h)

  defined_follow : (d : Definition) (U : Tables) → VersionsFollowColumns place U → VersionsFollowColumns place (defined d U)
  defined_follow as_before U h = h
  defined_follow (new def) U h =
      subst (λ (second : List Version). AllByRecursion (AllStartAfterColumns place second) (U ++ record { def = def; versions = [] } ∷ [])) (sym (new_table def columns_id U))
      (all_append (AllStartAfterColumns place (versions_of U columns_id)) U (record { def = def; versions = [] } ∷ []) h ((λ lt. tt), tt))
  defined_follow (in_place def) U h = redefined_follow def U h
  defined_follow (altered def) U h = redefined_follow def U h

-- ---- what statements start in the table of columns

-- of equal keys of numbers the first and the second are equal
one_key : (a b m n : ℕ) → number a ∷ number m ∷ number 0 ∷ [] ≡ number b ∷ number n ∷ number 0 ∷ [] → (a ≡ b) × (m ≡ n)
one_key a b m n e =
    let same : same_key (number a ∷ number m ∷ number 0 ∷ []) (number b ∷ number n ∷ number 0 ∷ []) ≡ true =
    ap (same_key (number a ∷ number m ∷ number 0 ∷ [])) (sym e) ∙ same_itself (number a ∷ number m ∷ number 0 ∷ []) in
    let first = same_first a b (number m ∷ number 0 ∷ []) (number n ∷ number 0 ∷ []) same in
    (first.0, (same_first m n (number 0 ∷ []) (number 0 ∷ []) first.1).0)

-- and of such keys the changes are equal
change_of : (a m n b k : ℕ) → number a ∷ number m ∷ number n ∷ [] ≡ number b ∷ number k ∷ number 0 ∷ [] → n ≡ 0
change_of a m n b k e =
    let same : same_key (number a ∷ number m ∷ number n ∷ []) (number b ∷ number k ∷ number 0 ∷ []) ≡ true =
    ap (same_key (number a ∷ number m ∷ number n ∷ [])) (sym e) ∙ same_itself (number a ∷ number m ∷ number n ∷ []) in
    let first = same_first a b (number m ∷ number n ∷ []) (number k ∷ number 0 ∷ []) same in
    let second = same_first m k (number n ∷ []) (number 0 ∷ []) first.1 in
    (same_first n 0 [] [] second.1).0

next_is_above : (id : ℕ) (first second : List Version) → 1 ≤ next_change id first second
unfolding next_change
next_is_above id first second = omega arith

-- these ids are below n
abbrev pub AllBelow : ℕ → Defs → Type 0
AllBelow n defs = AllByRecursion (λ (d : TableDef). d.id < n) defs

pub ids_below : (k n : ℕ) (defs : Defs) → IdsFrom k defs → k + length defs ≤ n → AllBelow n defs
ids_below k n [] ids le = tt
ids_below k n (d ∷ ds) ids le = (omega (arith, ids.0, le), ids_below (k + 1) n ds ids.1 (omega (arith, le)))

-- ---- CREATE TABLE: the id is new

column_elsewhere : (defs : Defs) (id n : ℕ) (cs : List ColumnDef) → AllBelow id defs → AllByRecursion (IsNotOfColumns defs) (in_table columns_id (column_starts (map (column_row id) (numbered n cs))))
column_elsewhere defs id n [] below = tt
column_elsewhere defs id n (c ∷ cs) below = (
  (λ _. all_weaker (λ (d : TableDef). d.id < id) (λ (d : TableDef). 2 < d.id → IsNotOfColumn (Starts (stored_row columns_columns (column_row id (n, c)))) d.id)
      (λ d lt users k. (let e = one_key id d.id n k.item (sym (column_key id (n, c)) ∙ k.is) in absurd (omega (arith, e.0, lt)))) defs below),
  column_elsewhere defs id (n + 1) cs below,
)

table_elsewhere : (T : Tables) (c : CreateTable) (m : Checked TableDef) → IdsFrom 1 (defs_of T) → create_check (defs_of T) c ≡ m → AllByRecursion (IsNotOfColumns (defs_of T)) (create_table_change_set m).changes
unfolding column_rows
table_elsewhere T c (Err e) ids is = tt
table_elsewhere T c (Ok def) ids is =
    let f : Created (defs_of T) def = created (defs_of T) c def is in
    all_append (IsNotOfColumns (defs_of T)) (in_table tables_id (table_start def)) (in_table columns_id (column_starts (map (column_row def.id) (numbered 1 def.columns))))
    ((λ e. absurd (omega (arith, e))), tt)
    (column_elsewhere (defs_of T) def.id 1 def.columns (ids_below 1 def.id (defs_of T) ids (omega (arith, f.id))))

-- ---- CREATE INDEX: items are from 1000 on

part_elsewhere : (defs : Defs) (id g n : ℕ) (name : List ℕ) (os : List ℕ) → 1 ≤ g → AllByRecursion (IsNotOfColumns defs) (in_table columns_id (column_starts (map (index_row id g name) (numbered n os))))
part_elsewhere defs id g n name [] le = tt
part_elsewhere defs id g n name (o ∷ os) le = (
  (λ _. every defs),
  part_elsewhere defs id g (n + 1) name os le,
)
  where
    every : (ds : Defs) → AllByRecursion (λ (d : TableDef). 2 < d.id → IsNotOfColumn (Starts (stored_row columns_columns (index_row id g name (n, o)))) d.id) ds
    every [] = tt
    every (d ∷ ds) = ((λ users k. (let e = one_key id d.id (1000 * g + n) k.item (sym (index_key id g name (n, o)) ∙ k.is) in absurd (omega (arith, e.1, k.low, le)))), every ds)

index_elsewhere : (T : Tables) (m : Checked (TableDef × IndexDef)) → AllByRecursion (IsNotOfColumns (defs_of T)) (create_index_change_set m).changes
unfolding index_rows
index_elsewhere T (Err e) = tt
index_elsewhere T (Ok x) = part_elsewhere (defs_of T) x.0.id (length x.0.indexes + 1) 1 x.1.name x.1.ordinals (omega arith)

-- ---- ALTER TABLE and DROP TABLE: changes are above 0

changed_elsewhere : (defs : Defs) (n : ℕ) (x : WithColumn) → 1 ≤ n → IsNotOfColumns defs (columns_id, Starts (stored_row columns_columns (changed_column_row n x.0 x.1)))
changed_elsewhere defs n x le = λ _. every defs
  where
    every : (ds : Defs) → AllByRecursion (λ (d : TableDef). 2 < d.id → IsNotOfColumn (Starts (stored_row columns_columns (changed_column_row n x.0 x.1))) d.id) ds
    every [] = tt
    every (d ∷ ds) = ((λ users k. (let e = change_of x.0.id x.1.0 n d.id k.item (sym (changed_column_key n x.0 x.1) ∙ k.is) in absurd (omega (arith, e, le)))), every ds)

altered_elsewhere : (defs : Defs) (m : Checked Altered) → ((a : Altered) → m ≡ Ok a → AllByRecursion (IsNotOfColumns defs) (in_table columns_id a.second)) → AllByRecursion (IsNotOfColumns defs) (altered_change_set m).changes
altered_elsewhere defs (Ok a) h = all_append (IsNotOfColumns defs) (in_table tables_id a.first) (in_table columns_id a.second) (of_tables a.first) (h a refl)
  where
    of_tables : (cs : List Change) → AllByRecursion (IsNotOfColumns defs) (in_table tables_id cs)
    of_tables [] = tt
    of_tables (c ∷ cs) = ((λ e. absurd (omega (arith, e))), of_tables cs)
altered_elsewhere defs (Err e) h = tt

alter_elsewhere : (defs : Defs) (first second : List Version) (y : Alter) → AllByRecursion (IsNotOfColumns defs) (altered_change_set (alteration defs first second y)).changes
alter_elsewhere defs first second y =
    altered_elsewhere defs (alteration defs first second y)
    (λ a e. by_alter defs first second (λ b. AllByRecursion (IsNotOfColumns defs) (in_table columns_id b.second)) y a e
    (λ x passed. (changed_elsewhere defs (next_change x.0.id first second) x (next_is_above x.0.id first second), tt)))

drop_elsewhere : (defs : Defs) (first second : List Version) (name : List ℕ) → AllByRecursion (IsNotOfColumns defs) (altered_change_set (table_drop defs first second name)).changes
drop_elsewhere defs first second name =
    altered_elsewhere defs (table_drop defs first second name)
    (λ a e. by_drop defs first second (λ b. AllByRecursion (IsNotOfColumns defs) (in_table columns_id b.second)) name a e (λ def passed. tt))

-- ---- rows of users' tables

users_elsewhere : (defs : Defs) (id : ℕ) (cs : List Change) → 2 < id → AllByRecursion (IsNotOfColumns defs) (in_table id cs)
users_elsewhere defs id [] lt = tt
users_elsewhere defs id (c ∷ cs) lt = ((λ e. absurd (omega (arith, e, lt))), users_elsewhere defs id cs lt)

row_elsewhere : (defs : Defs) (id : ℕ) (m : Checked Changes) → 2 < id → AllByRecursion (IsNotOfColumns defs) (row_change_set id m).changes
row_elsewhere defs id (Ok c) lt = users_elsewhere defs id c.0 lt
row_elsewhere defs id (Err e) lt = tt

change_elsewhere : (T : Tables) (stmt : RowStmt) (m : Checked TableDef) → row_statement_check (defs_of T) stmt ≡ m → AllByRecursion (IsNotOfColumns (defs_of T)) (row_stmt_change_set T stmt m).changes
change_elsewhere T stmt (Ok def) is = row_elsewhere (defs_of T) def.id (row_changes def (versions_of T def.id) stmt) (users_table (defs_of T) stmt def is)
change_elsewhere T stmt (Err e) is = tt

shown_elsewhere : (defs : Defs) (m : Checked (List Row)) → AllByRecursion (IsNotOfColumns defs) (select_change_set m).changes
shown_elsewhere defs (Ok rows) = tt
shown_elsewhere defs (Err e) = tt

query_elsewhere : (T : Tables) (q : Select) (m : Checked NamedPart) → AllByRecursion (IsNotOfColumns (defs_of T)) (query_change_set T q m).changes
query_elsewhere T q (Ok n) = shown_elsewhere (defs_of T) (query_rows q n (versions_of T n.0.id))
query_elsewhere T q (Err e) = tt

-- ---- all statements

change_set_elsewhere : (T : Tables) (stmt : Stmt) → IdsFrom 1 (defs_of T) → AllByRecursion (IsNotOfColumns (defs_of T)) (change_set T stmt).changes
unfolding change_set
change_set_elsewhere T (s.Create c) ids = table_elsewhere T c (create_check (defs_of T) c) ids refl
change_set_elsewhere T (s.Index c) ids = index_elsewhere T (index_check (defs_of T) c)
change_set_elsewhere T (s.Alter y) ids = alter_elsewhere (defs_of T) (versions_of T tables_id) (versions_of T columns_id) y
change_set_elsewhere T (s.Drop name) ids = drop_elsewhere (defs_of T) (versions_of T tables_id) (versions_of T columns_id) name
change_set_elsewhere T (s.Change stmt) ids = change_elsewhere T stmt (row_statement_check (defs_of T) stmt) refl
change_set_elsewhere T (s.Select q) ids = query_elsewhere T q (query_check (defs_of T) q)
change_set_elsewhere T s.Begin ids = tt
change_set_elsewhere T s.Commit ids = tt
change_set_elsewhere T (s.Save name) ids = tt
change_set_elsewhere T (s.Rollback name) ids = tt
change_set_elsewhere T s.Digest ids = tt
change_set_elsewhere T s.Image ids = tt

pub statement_follows : (place : ℕ → ℕ) (tx seq : ℕ) (T : Tables) (stmt : Stmt) → Kept place tx seq T → Described T → VersionsFollowColumns place T → VersionsFollowColumns place (effect T tx seq stmt).tables
statement_follows place tx seq T stmt k d h =
    let p : ChangeSet = change_set T stmt in
    subst (λ (e : Effect). VersionsFollowColumns place e.tables) (sym (carries_change_set_out T tx seq stmt))
    (defined_follow place p.definition (changed_from tx seq p.changes T)
    (all_follow place tx seq p.changes T k (change_set_fine place tx seq T stmt k d) (change_set_elsewhere T stmt k.sound.ids) h))
