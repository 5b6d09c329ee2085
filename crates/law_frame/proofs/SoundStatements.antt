-- Each statement keeps the tables sound.
use Rattle.std.proofs.Common.{◌≡◌, ℕ, ◌+◌, refl, sym, ap, subst, ◌∙◌, Bool, true, false, List, [], ◌∷◌, ◌++◌, length, Ok, Err, arith}
use Rattle.std.proofs.lemmas.Bool.{eqb-true}
use Rattle.std.specs.Prelude.{◌==◌, ◌||◌, if◌then◌else◌}
use Rattle.std.specs.List.{list_any}
use Rattle.sql_value.specs.declared.column.ColumnDef.{ColumnDef}
use Rattle.sql_value.specs.declared.refusal.Refusal.{Refusal}
use Rattle.sql_value.specs.declared.refusal.Refusal.TheVariants.{NoSuchTable, NameConflict, NoSuchColumn, NullNotAllowed, ReadOnlyTable, LimitExceeded}
use Rattle.sql_types.specs.declared.statement.Stmt.{Stmt}
use Rattle.sql_types.specs.declared.statement.Stmt.TheVariants as s
use Rattle.sql_types.specs.declared.statement.CreateTable.{CreateTable}
use Rattle.sql_types.specs.declared.statement.CreateIndex.{CreateIndex}
use Rattle.sql_types.specs.declared.table.TableDef.{TableDef}
use Rattle.sql_types.specs.declared.table.IndexDef.{IndexDef}
use Rattle.sql_types.specs.declared.table.Part.TheVariants.{Base}
use Rattle.sql_types.specs.declared.version.Table.{Table}
use Rattle.spec_model.specs.Refusals.{Checked, or_refused}
use Rattle.spec_model.specs.Lists.{repeats, has_name}
use Rattle.spec_model.specs.Checks.{refused_if}
use Rattle.spec_model.specs.Catalog.{Defs, Tables, defs_of, versions_of, find_part}
use Rattle.spec_model.specs.SystemTables.{tables_id, columns_id, first_tables}
use Rattle.spec_model.specs.Create.{names_of, table_names, all_names, table_def, create_check, next_id, has_bad_name, exceeds_limit, has_null_key, is_ledger_name, with_index, index_def, index_check_in, index_check}
use Rattle.spec_model.specs.Alter.{Altered, alteration, table_drop}
use Rattle.spec_model.specs.Effect.{Effect, effect, with_def, redefined}
use Rattle.spec_model.specs.ChangeSets.{TableChange, changed_from, Definition, defined, ChangeSet, change_set, create_table_change_set, create_index_change_set, altered_change_set, carried_out}
use Rattle.spec_model.specs.Agreement.{IdsFrom}
use Rattle.spec_model.specs.Reach.{creates}
use Rattle.spec_model.specs.Runs.{SoundTable, Sound}
use Rattle.law_frame.specs.Alters.{Altering}
use Rattle.law_frame.proofs.Checked.{Led, led, was_passed}
use Rattle.law_frame.proofs.Alls.{all_append, all_map}
use Rattle.law_frame.proofs.ChangeSets.{carries_change_set_out}
use Rattle.law_frame.proofs.NamedPart.{IsAmongDefs, found_is_listed, was_found}
use Rattle.law_frame.proofs.AtTable.{names_at}
use Rattle.law_frame.proofs.Definitions.{changes_keep_defs, change_set_keeps}
use Rattle.law_frame.proofs.Alterations.{alteration_alters, drop_alters}
use Rattle.law_frame.proofs.Sounds.{sound_all}

-- ---- CREATE TABLE

pub four_passed : {A : Type 0} (a b c d : Bool) (e f g h : Refusal) (y x : A) → refused_if a e (refused_if b f (refused_if c g (refused_if d h (Ok y)))) ≡ Ok x → x ≡ y
four_passed true b c d e f g h y x k = cc
four_passed false true c d e f g h y x k = cc
four_passed false false true d e f g h y x k = cc
four_passed false false false true e f g h y x k = cc
four_passed false false false false e f g h y x k = cc

third_false : (a b c d e : Bool) → (a || b || c || d || e) ≡ false → c ≡ false
third_false true b c d e h = cc
third_false false true c d e h = cc
third_false false false true d e h = cc
third_false false false false d e h = refl

new_def : (defs : Defs) (c : CreateTable) (def : TableDef) → create_check defs c ≡ Ok def → def ≡ table_def (next_id defs) c
unfolding create_check
new_def defs c def e = four_passed (has_bad_name defs (table_def (next_id defs) c) c.key) (exceeds_limit defs (table_def (next_id defs) c) c.key) _ (has_null_key (table_def (next_id defs) c)) NameConflict LimitExceeded NoSuchColumn NullNotAllowed (table_def (next_id defs) c) def e

new_id : (defs : Defs) (c : CreateTable) (def : TableDef) → create_check defs c ≡ Ok def → def.id ≡ length defs + 1
unfolding table_def
new_id defs c def e = ap (λ (d : TableDef). d.id) (new_def defs c def e)

new_columns : (defs : Defs) (c : CreateTable) (def : TableDef) → create_check defs c ≡ Ok def → repeats (names_of def.columns) ≡ false
unfolding create_check
new_columns defs c def e =
    let d : TableDef = table_def (next_id defs) c in
    let free : has_bad_name defs d c.key ≡ false = was_passed (has_bad_name defs d c.key) NameConflict _ def e in
    subst (λ (x : TableDef). repeats (names_of x.columns) ≡ false) (sym (new_def defs c def e))
    (third_false (repeats (table_names d)) (list_any (has_name (all_names defs)) (table_names d)) (repeats (names_of d.columns)) (repeats c.key) (list_any (λ x. is_ledger_name x.name) d.columns) free)

ids_append : (n : ℕ) (T : Tables) (t : Table) → IdsFrom n (defs_of T) → t.def.id ≡ n + length (defs_of T) → IdsFrom n (defs_of (T ++ t ∷ []))
ids_append n [] t h e = (omega (arith, e), tt)
ids_append n (u ∷ us) t h e = (h.0, ids_append (n + 1) us t h.1 (omega (arith, e)))

module _ (tx : ℕ) where
  table_sound : (seq : ℕ) (T : Tables) (c : CreateTable) (m : Checked TableDef) → create_check (defs_of T) c ≡ m → Sound tx seq T
      → (let e : Effect = carried_out T tx seq (create_table_change_set m) in Sound tx e.seq e.tables)
  table_sound seq T c (Ok def) check h =
      let cs : List TableChange = (create_table_change_set (Ok def)).changes in
      let U : Tables = changed_from tx seq cs T in
      let k : Sound tx (seq + length cs) U = sound_all tx seq cs T h in
      record {
        ids = ids_append 1 U (record { def = def; versions = [] }) k.ids (new_id (defs_of T) c def check ∙ omega (arith, ap (λ (ds : Defs). length ds) (changes_keep_defs tx seq cs T)));
        each = all_append (SoundTable tx (seq + length cs)) U (record { def = def; versions = [] } ∷ []) k.each (record { names = new_columns (defs_of T) c def check; rising = tt; before = tt }, tt);
      }
  table_sound seq T c (Err e) check h = subst (λ (n : ℕ). Sound tx n T) (omega arith) h

  -- ---- CREATE INDEX

  found_table : (T : Tables) (c : CreateIndex) (x : TableDef × IndexDef) → index_check (defs_of T) c ≡ Ok x → IdsFrom 1 (defs_of T) → IsAmongDefs 1 (defs_of T) x.0
  unfolding index_check
  found_table T c x e ids =
      let l : Led (or_refused NoSuchTable (find_part (defs_of T) c.table)) (index_check_in c) x = led _ _ x e in
      let whole : x ≡ (l.value.0, index_def l.value.0 c) = four_passed _ _ _ _ NameConflict LimitExceeded ReadOnlyTable NoSuchColumn (l.value.0, index_def l.value.0 c) x l.then_ in
      let is : l.value.0 ≡ x.0 = ap (λ (y : TableDef × IndexDef). y.0) (sym whole) in
      subst (IsAmongDefs 1 (defs_of T)) is (found_is_listed 1 (defs_of T) c.table l.value ids (was_found NoSuchTable (find_part (defs_of T) c.table) l.value l.was))

  same_id : (def : TableDef) (b : Bool) (t : Table) → (t.def.id == def.id) ≡ b → (if b then with_def def t else t).def.id ≡ t.def.id
  same_id def true t e = sym (eqb-true t.def.id def.id e)
  same_id def false t e = refl

  ids_redefined : (def : TableDef) (n : ℕ) (T : Tables) → IdsFrom n (defs_of T) → IdsFrom n (defs_of (redefined def T))
  ids_redefined def n [] h = tt
  ids_redefined def n (t ∷ ts) h = (same_id def (t.def.id == def.id) t refl ∙ h.0, ids_redefined def (n + 1) ts h.1)

  table_redefined : (seq : ℕ) (def : TableDef) → repeats (names_of def.columns) ≡ false → (b : Bool) (t : Table) → SoundTable tx seq t → SoundTable tx seq (if b then with_def def t else t)
  table_redefined seq def names true t h = record { names = names; rising = h.rising; before = h.before }
  table_redefined seq def names false t h = h

  index_sound : (seq : ℕ) (T : Tables) (c : CreateIndex) (m : Checked (TableDef × IndexDef)) → index_check (defs_of T) c ≡ m → Sound tx seq T
      → (let e : Effect = carried_out T tx seq (create_index_change_set m) in Sound tx e.seq e.tables)
  index_sound seq T c (Ok x) check h =
      let cs : List TableChange = (create_index_change_set (Ok x)).changes in
      let U : Tables = changed_from tx seq cs T in
      let k : Sound tx (seq + length cs) U = sound_all tx seq cs T h in
      let def : TableDef = with_index x.0 x.1 in
      let has_listing : IsAmongDefs 1 (defs_of T) x.0 = found_table T c x check h.ids in
      let names : repeats (names_of x.0.columns) ≡ false = subst (λ (ds : List ColumnDef). repeats (names_of ds) ≡ false) has_listing.columns (names_at tx seq x.0.id T h.each) in
      record {
        ids = ids_redefined def 1 U k.ids;
        each = all_map (SoundTable tx (seq + length cs)) (SoundTable tx (seq + length cs)) (λ t. if t.def.id == def.id then with_def def t else t)
            (λ t. table_redefined (seq + length cs) def names (t.def.id == def.id) t) U k.each;
      }
  index_sound seq T c (Err e) check h = subst (λ (n : ℕ). Sound tx n T) (omega arith) h

  -- ---- ALTER and DROP

  altered_sound : (seq : ℕ) (T : Tables) (m : Checked Altered) → ((a : Altered) → m ≡ Ok a → Altering (defs_of T) a.def) → Sound tx seq T
      → (let e : Effect = carried_out T tx seq (altered_change_set m) in Sound tx e.seq e.tables)
  altered_sound seq T (Ok a) alters h =
      let cs : List TableChange = (altered_change_set (Ok a)).changes in
      let U : Tables = changed_from tx seq cs T in
      let k : Sound tx (seq + length cs) U = sound_all tx seq cs T h in
      let w : Altering (defs_of T) a.def = alters a refl in
      let has_listing : IsAmongDefs 1 (defs_of T) w.old = found_is_listed 1 (defs_of T) w.name (w.old, Base) h.ids w.found in
      let before : repeats (names_of w.old.columns) ≡ false = subst (λ (ds : List ColumnDef). repeats (names_of ds) ≡ false) has_listing.columns (names_at tx seq w.old.id T h.each) in
      record {
        ids = ids_redefined a.def 1 U k.ids;
        each = all_map (SoundTable tx (seq + length cs)) (SoundTable tx (seq + length cs)) (λ t. if t.def.id == a.def.id then with_def a.def t else t)
            (λ t. table_redefined (seq + length cs) a.def (w.alters.names before) (t.def.id == a.def.id) t) U k.each;
      }
  altered_sound seq T (Err e) alters h = subst (λ (n : ℕ). Sound tx n T) (omega arith) h

  -- ---- all statements

  pub kept_sound : (seq : ℕ) (T : Tables) (stmt : Stmt) → creates stmt ≡ false → Sound tx seq T → (let e : Effect = effect T tx seq stmt in Sound tx e.seq e.tables)
  kept_sound seq T stmt keeps h =
      let p : ChangeSet = change_set T stmt in
      subst (λ (e : Effect). Sound tx e.seq e.tables) (sym (carries_change_set_out T tx seq stmt))
      (subst (λ (d : Definition). Sound tx (seq + length p.changes) (defined d (changed_from tx seq p.changes T))) (sym (change_set_keeps T stmt keeps)) (sound_all tx seq p.changes T h))

  by_create : (b : Bool) (seq : ℕ) (T : Tables) (stmt : Stmt) → creates stmt ≡ b → Sound tx seq T → (let e : Effect = effect T tx seq stmt in Sound tx e.seq e.tables)
  unfolding change_set
  by_create false seq T stmt e h = kept_sound seq T stmt e h
  by_create true seq T (s.Create c) e h = subst (λ (x : Effect). Sound tx x.seq x.tables) (sym (carries_change_set_out T tx seq (s.Create c))) (table_sound seq T c (create_check (defs_of T) c) refl h)
  by_create true seq T (s.Index c) e h = subst (λ (x : Effect). Sound tx x.seq x.tables) (sym (carries_change_set_out T tx seq (s.Index c))) (index_sound seq T c (index_check (defs_of T) c) refl h)
  by_create true seq T (s.Alter x) e h =
      subst (λ (f : Effect). Sound tx f.seq f.tables) (sym (carries_change_set_out T tx seq (s.Alter x)))
      (altered_sound seq T (alteration (defs_of T) (versions_of T tables_id) (versions_of T columns_id) x) (alteration_alters (defs_of T) (versions_of T tables_id) (versions_of T columns_id) x) h)
  by_create true seq T (s.Drop name) e h =
      subst (λ (f : Effect). Sound tx f.seq f.tables) (sym (carries_change_set_out T tx seq (s.Drop name)))
      (altered_sound seq T (table_drop (defs_of T) (versions_of T tables_id) (versions_of T columns_id) name) (drop_alters (defs_of T) (versions_of T tables_id) (versions_of T columns_id) name) h)
  by_create true seq T (s.Change stmt) e h = cc
  by_create true seq T (s.Select q) e h = cc
  by_create true seq T s.Begin e h = cc
  by_create true seq T s.Commit e h = cc
  by_create true seq T (s.Save name) e h = cc
  by_create true seq T (s.Rollback name) e h = cc
  by_create true seq T s.Digest e h = cc
  by_create true seq T s.Image e h = cc

  pub statement_sound : (seq : ℕ) (T : Tables) (stmt : Stmt) → Sound tx seq T → (let e : Effect = effect T tx seq stmt in Sound tx e.seq e.tables)
  statement_sound seq T stmt h = by_create (creates stmt) seq T stmt refl h

-- what stands before any transaction
pub first_sound : (tx seq : ℕ) → Sound tx seq first_tables
unfolding first_tables
first_sound tx seq = record {
  ids = (refl, (refl, tt));
  each = (record { names = refl; rising = tt; before = tt }, (record { names = refl; rising = tt; before = tt }, tt));
}
