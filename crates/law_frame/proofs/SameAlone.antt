-- Over two states that agree on all that it wants, a statement that is a transaction of its own does the same.
use Rattle.std.proofs.Common.{◌≡◌, ℕ, refl, sym, ap, subst, ◌∙◌, Bool, true, false, List, [], ◌∷◌, ◌++◌, map, take, Option, Some, None, eqb-true}
use Rattle.std.specs.Prelude.{◌==◌, ◌||◌, if◌then◌else◌}
use Rattle.std.specs.List.{AllByRecursion}
use Rattle.sql_types.specs.declared.lock.Mode.TheVariants.{X}
use Rattle.sql_types.specs.declared.statement.Stmt.{Stmt}
use Rattle.sql_types.specs.declared.statement.Stmt.TheVariants as s
use Rattle.sql_types.specs.declared.reply.Reply.{Reply}
use Rattle.sql_types.specs.declared.table.TableDef.{TableDef}
use Rattle.sql_types.specs.declared.version.Table.{Table}
use Rattle.spec_model.specs.Catalog.{Defs, Tables, defs_of, versions_of}
use Rattle.spec_model.specs.SystemTables.{tables_id, columns_id}
use Rattle.spec_model.specs.Effect.{Effect, effect, with_def, redefined}
use Rattle.spec_model.specs.ChangeSets.{changed_from, Definition, as_before, new, in_place, altered, defined, ChangeSet, change_set}
use Rattle.spec_model.specs.Agreement.{SameCatalog, LockRequests, requests_of, AgreeFor}
use Rattle.spec_model.specs.Locks.{cell_requests}
use Rattle.spec_model.specs.Reach.{creates, reaches_table}
use Rattle.spec_model.specs.Touched.{touched}
use Rattle.spec_model.specs.Runs.{Sound}
use Rattle.spec_model.specs.Script.{Reading, Step, by_effect, alone, by_statement, start, text_step, script_from, script}
use Rattle.spec_model.specs.ScriptRequests.{text_requests, text_changes, changes_from, script_changes}
use Rattle.law_frame.proofs.ChangeSets.{carries_change_set_out}
use Rattle.law_frame.proofs.SameChangeSet.{same_change_set, same_reply, same_counter}
use Rattle.law_frame.proofs.LeftTables.{left_table}
use Rattle.law_frame.proofs.AtTable.{new_table, redefined_table}
use Rattle.law_frame.proofs.AgreeAfter.{agree_after}
use Rattle.law_frame.proofs.SameScripts.{AlikeTables, effects}
use Rattle.law_frame.proofs.SameTouched.{untouched_at}

-- ---- definitions after CREATE, ALTER and DROP

defs_append : (T : Tables) (t : Table) → defs_of (T ++ t ∷ []) ≡ defs_of T ++ t.def ∷ []
defs_append [] t = refl
defs_append (u ∷ us) t = ap (λ (ds : Defs). u.def ∷ ds) (defs_append us t)

def_if : (def : TableDef) (b : Bool) (t : Table) → (if b then with_def def t else t).def ≡ (if b then def else t.def)
def_if def true t = refl
def_if def false t = refl

defs_redefined : (def : TableDef) (T : Tables) → defs_of (redefined def T) ≡ map (λ (d : TableDef). if d.id == def.id then def else d) (defs_of T)
defs_redefined def [] = refl
defs_redefined def (t ∷ ts) = rw (def_if def (t.def.id == def.id) t, defs_redefined def ts) refl

redefined_same : (def : TableDef) (T U : Tables) → SameCatalog T U → SameCatalog (redefined def T) (redefined def U)
redefined_same def T U h = record {
  definitions = defs_redefined def T ∙ ap (map (λ (d : TableDef). if d.id == def.id then def else d)) h.definitions ∙ sym (defs_redefined def U);
  tables = redefined_table def tables_id T ∙ h.tables ∙ sym (redefined_table def tables_id U);
  columns = redefined_table def columns_id T ∙ h.columns ∙ sym (redefined_table def columns_id U);
}

defined_same : (d : Definition) (T U : Tables) → SameCatalog T U → SameCatalog (defined d T) (defined d U)
defined_same as_before T U h = h
defined_same (new def) T U h = record {
  definitions = defs_append T _ ∙ ap (λ (ds : Defs). ds ++ def ∷ []) h.definitions ∙ sym (defs_append U _);
  tables = new_table def tables_id T ∙ h.tables ∙ sym (new_table def tables_id U);
  columns = new_table def columns_id T ∙ h.columns ∙ sym (new_table def columns_id U);
}
defined_same (in_place def) T U h = redefined_same def T U h
defined_same (altered def) T U h = redefined_same def T U h

module _ (T U : Tables) (tx : ℕ) (sound : Sound tx 0 T) (sound_too : Sound tx 0 U) where
  same_catalog : (stmt : Stmt) → SameCatalog T U → AgreeFor T U (requests_of (defs_of T) false stmt) → SameCatalog (effect T tx 0 stmt).tables (effect U tx 0 stmt).tables
  same_catalog stmt h a =
      let p : ChangeSet = change_set T stmt in
      let one : change_set T stmt ≡ change_set U stmt = same_change_set T U sound.ids stmt a in
      let first : defined p.definition (changed_from tx 0 p.changes T) ≡ (effect T tx 0 stmt).tables = ap (λ (e : Effect). e.tables) (sym (carries_change_set_out T tx 0 stmt)) in
      let second : defined p.definition (changed_from tx 0 p.changes U) ≡ (effect U tx 0 stmt).tables =
      ap (λ (q : ChangeSet). defined q.definition (changed_from tx 0 q.changes U)) one ∙ ap (λ (e : Effect). e.tables) (sym (carries_change_set_out U tx 0 stmt)) in
      let shared : LockRequests = record { catalog = Some X; cell = None } in
      let after = agree_after tx 0 p.changes T U h.definitions sound sound_too (shared ∷ []) (record { catalog = h; cell = tt }, tt) in
      subst (λ (V : Tables). SameCatalog V (effect U tx 0 stmt).tables) first
      (subst (λ (V : Tables). SameCatalog (defined p.definition (changed_from tx 0 p.changes T)) V) second
      (defined_same p.definition (changed_from tx 0 p.changes T) (changed_from tx 0 p.changes U) after.0.catalog))

  -- ---- a text

  pub record SameEnd (p q : Step) : Type 0 where
    pub reply : p.1 ≡ q.1
    pub seq : p.0.seq ≡ q.0.seq

  effect_end : (stmt : Stmt) → AgreeFor T U (requests_of (defs_of T) false stmt) → SameEnd (by_effect (start T) (effect T tx 0 stmt)) (by_effect (start U) (effect U tx 0 stmt))
  effect_end stmt a = record { reply = same_reply T U tx 0 stmt sound.ids a; seq = same_counter T U tx 0 stmt sound.ids a }

  alone_end : (stmt : Stmt) → AgreeFor T U (requests_of (defs_of T) false stmt) → SameEnd (alone tx (start T) stmt) (alone tx (start U) stmt)
  alone_end (s.Create c) a = effect_end (s.Create c) a
  alone_end (s.Index c) a = effect_end (s.Index c) a
  alone_end (s.Alter x) a = effect_end (s.Alter x) a
  alone_end (s.Drop name) a = effect_end (s.Drop name) a
  alone_end (s.Change stmt) a = effect_end (s.Change stmt) a
  alone_end (s.Select q) a = effect_end (s.Select q) a
  alone_end s.Begin a = record { reply = refl; seq = refl }
  alone_end s.Commit a = record { reply = refl; seq = refl }
  alone_end (s.Save name) a = record { reply = refl; seq = refl }
  alone_end (s.Rollback name) a = record { reply = refl; seq = refl }
  alone_end s.Digest a = record { reply = refl; seq = refl }
  alone_end s.Image a = record { reply = refl; seq = refl }

  text_end : (o : Option Stmt) → AgreeFor T U (text_requests (defs_of T) false o) → SameEnd (by_statement false tx (start T) o) (by_statement false tx (start U) o)
  text_end None a = record { reply = refl; seq = refl }
  text_end (Some stmt) a = alone_end stmt a

  own_changes : (o : Option Stmt) → AgreeFor T U (text_requests (defs_of T) false o) → text_changes false T o ≡ text_changes false U o
  own_changes None a = refl
  own_changes (Some (s.Create c)) a = ap (λ (p : ChangeSet). p.changes) (same_change_set T U sound.ids (s.Create c) a)
  own_changes (Some (s.Index c)) a = ap (λ (p : ChangeSet). p.changes) (same_change_set T U sound.ids (s.Index c) a)
  own_changes (Some (s.Alter x)) a = ap (λ (p : ChangeSet). p.changes) (same_change_set T U sound.ids (s.Alter x) a)
  own_changes (Some (s.Drop name)) a = ap (λ (p : ChangeSet). p.changes) (same_change_set T U sound.ids (s.Drop name) a)
  own_changes (Some (s.Change stmt)) a = ap (λ (p : ChangeSet). p.changes) (same_change_set T U sound.ids (s.Change stmt) a)
  own_changes (Some (s.Select q)) a = ap (λ (p : ChangeSet). p.changes) (same_change_set T U sound.ids (s.Select q) a)
  own_changes (Some s.Begin) a = refl
  own_changes (Some s.Commit) a = refl
  own_changes (Some (s.Save name)) a = refl
  own_changes (Some (s.Rollback name)) a = refl
  own_changes (Some s.Digest) a = refl
  own_changes (Some s.Image) a = refl

  -- ---- the versions that it starts and ends

  abbrev Same : (T U : Tables) → Type 0
  Same T U = (id : ℕ) → touched tx (versions_of T id) ≡ touched tx (versions_of U id)

  none_yet : Same T U
  none_yet id = untouched_at tx T id sound ∙ sym (untouched_at tx U id sound_too)

  only_change : (stmt : Stmt) (reads : Reading) → creates stmt ≡ false → SameCatalog T U → AgreeFor T U (requests_of (defs_of T) false stmt) → Same (effect T tx 0 stmt).tables (effect U tx 0 stmt).tables
  only_change stmt reads k same a = (effects reads tx (defs_of T) [] 0 T U stmt k same (record { sound = sound; sound_too = sound_too; agree = tt; defs = refl; mine = none_yet }) a).tables.mine

  -- one that creates changes the system tables alone
  system_or_not : (stmt : Stmt) → SameCatalog (effect T tx 0 stmt).tables (effect U tx 0 stmt).tables → (id : ℕ) (b c : Bool) → (id == tables_id) ≡ b → (id == columns_id) ≡ c
      → ((D : Defs) → reaches_table id (requests_of D false stmt) ≡ ((id == tables_id || id == columns_id) || false)) → touched tx (versions_of (effect T tx 0 stmt).tables id) ≡ touched tx (versions_of (effect U tx 0 stmt).tables id)
  system_or_not stmt h id true c e f k = ap (touched tx) (subst (λ n. versions_of (effect T tx 0 stmt).tables n ≡ versions_of (effect U tx 0 stmt).tables n) (sym (eqb-true id tables_id e)) h.tables)
  system_or_not stmt h id false true e f k = ap (touched tx) (subst (λ n. versions_of (effect T tx 0 stmt).tables n ≡ versions_of (effect U tx 0 stmt).tables n) (sym (eqb-true id columns_id f)) h.columns)
  system_or_not stmt h id false false e f k = let none : ((id == tables_id || id == columns_id) || false) ≡ false = rw (e, f) refl in
      ap (touched tx) (left_table tx 0 T id stmt (k (defs_of T) ∙ none)) ∙ none_yet id ∙ ap (touched tx) (sym (left_table tx 0 U id stmt (k (defs_of U) ∙ none)))

  own_versions : (reads : Reading) (stmt : Stmt) → AgreeFor T U (requests_of (defs_of T) false stmt) → Same (alone tx (start T) stmt).0.tables (alone tx (start U) stmt).0.tables
  unfolding cell_requests
  own_versions reads (s.Create c) a = λ id. system_or_not (s.Create c) (same_catalog (s.Create c) a.catalog a) id (id == tables_id) (id == columns_id) refl refl (λ D. refl)
  own_versions reads (s.Index c) a = λ id. system_or_not (s.Index c) (same_catalog (s.Index c) a.catalog a) id (id == tables_id) (id == columns_id) refl refl (λ D. refl)
  own_versions reads (s.Alter x) a = λ id. system_or_not (s.Alter x) (same_catalog (s.Alter x) a.catalog a) id (id == tables_id) (id == columns_id) refl refl (λ D. refl)
  own_versions reads (s.Drop name) a = λ id. system_or_not (s.Drop name) (same_catalog (s.Drop name) a.catalog a) id (id == tables_id) (id == columns_id) refl refl (λ D. refl)
  own_versions reads (s.Change x) a = only_change (s.Change x) reads refl a.catalog a
  own_versions reads (s.Select q) a = only_change (s.Select q) reads refl a.catalog a
  own_versions reads s.Begin a = none_yet
  own_versions reads s.Commit a = none_yet
  own_versions reads (s.Save name) a = none_yet
  own_versions reads (s.Rollback name) a = none_yet
  own_versions reads s.Digest a = none_yet
  own_versions reads s.Image a = none_yet

  text_versions : (reads : Reading) (o : Option Stmt) → AgreeFor T U (text_requests (defs_of T) false o) → Same (by_statement false tx (start T) o).0.tables (by_statement false tx (start U) o).0.tables
  text_versions reads None a = none_yet
  text_versions reads (Some stmt) a = own_versions reads stmt a

  -- no copy is made of savepoints
  none_saved : (V : Tables) (o : Option Stmt) → (by_statement false tx (start V) o).0.saved ≡ []
  none_saved V None = refl
  none_saved V (Some (s.Create c)) = refl
  none_saved V (Some (s.Index c)) = refl
  none_saved V (Some (s.Alter x)) = refl
  none_saved V (Some (s.Drop name)) = refl
  none_saved V (Some (s.Change x)) = refl
  none_saved V (Some (s.Select q)) = refl
  none_saved V (Some s.Begin) = refl
  none_saved V (Some s.Commit) = refl
  none_saved V (Some (s.Save name)) = refl
  none_saved V (Some (s.Rollback name)) = refl
  none_saved V (Some s.Digest) = refl
  none_saved V (Some s.Image) = refl

  module _ (reads : Reading) (text : List ℕ) where
    pub alone_versions : AgreeFor T U (text_requests (defs_of T) false (reads text)) → Same (script reads false T tx (text ∷ [])).state.tables (script reads false U tx (text ∷ [])).state.tables
    unfolding script_from text_step
    alone_versions a = text_versions reads (reads text) a

    pub alone_saved : (V : Tables) → (script reads false V tx (text ∷ [])).state.saved ≡ []
    unfolding script_from text_step
    alone_saved V = none_saved V (reads text)

    pub alone_replies : AgreeFor T U (text_requests (defs_of T) false (reads text)) → (script reads false T tx (text ∷ [])).replies ≡ (script reads false U tx (text ∷ [])).replies
    unfolding script_from text_step
    alone_replies a = ap (λ (reply : Reply). reply ∷ []) (text_end (reads text) a).reply

    pub alone_counter : AgreeFor T U (text_requests (defs_of T) false (reads text)) → (script reads false T tx (text ∷ [])).state.seq ≡ (script reads false U tx (text ∷ [])).state.seq
    unfolding script_from text_step
    alone_counter a = (text_end (reads text) a).seq

    pub alone_changes : AgreeFor T U (text_requests (defs_of T) false (reads text)) → script_changes reads false T tx (text ∷ []) ≡ script_changes reads false U tx (text ∷ [])
    unfolding changes_from text_step
    alone_changes a =
        ap (λ (n : ℕ). take n (text_changes false T (reads text))) (text_end (reads text) a).seq
        ∙ ap (take (by_statement false tx (start U) (reads text)).0.seq) (own_changes (reads text) a)

    -- who creates
    pub alone_catalog : (stmt : Stmt) → reads text ≡ Some stmt → creates stmt ≡ true → AgreeFor T U (requests_of (defs_of T) false stmt)
        → SameCatalog (script reads false T tx (text ∷ [])).state.tables (script reads false U tx (text ∷ [])).state.tables
    unfolding script_from text_step
    alone_catalog stmt e k a = rw e (created stmt k a)
      where
        created : (x : Stmt) → creates x ≡ true → AgreeFor T U (requests_of (defs_of T) false x) → SameCatalog (alone tx (start T) x).0.tables (alone tx (start U) x).0.tables
        created (s.Create c) i b = same_catalog (s.Create c) b.catalog b
        created (s.Index c) i b = same_catalog (s.Index c) b.catalog b
        created (s.Alter y) i b = same_catalog (s.Alter y) b.catalog b
        created (s.Drop name) i b = same_catalog (s.Drop name) b.catalog b
        created (s.Change y) i b = cc
        created (s.Select q) i b = cc
        created s.Begin i b = cc
        created s.Commit i b = cc
        created (s.Save name) i b = cc
        created (s.Rollback name) i b = cc
        created s.Digest i b = cc
        created s.Image i b = cc

    -- who doesn't
    module _ (ws : List LockRequests) (agree : AllByRecursion (AgreeFor T U) ws) where
      alike : AlikeTables reads tx (defs_of T) ws 0 T U
      alike = record { sound = sound; sound_too = sound_too; agree = agree; defs = refl; mine = λ id. untouched_at tx T id sound ∙ sym (untouched_at tx U id sound_too) }

      kept_agree : (stmt : Stmt) → creates stmt ≡ false → AgreeFor T U (requests_of (defs_of T) false stmt) → AllByRecursion (AgreeFor (alone tx (start T) stmt).0.tables (alone tx (start U) stmt).0.tables) ws
      kept_agree (s.Create c) k a = cc
      kept_agree (s.Index c) k a = cc
      kept_agree (s.Alter x) k a = cc
      kept_agree (s.Drop name) k a = cc
      kept_agree (s.Change x) k a = (effects reads tx (defs_of T) ws 0 T U (s.Change x) refl a.catalog alike a).tables.agree
      kept_agree (s.Select q) k a = (effects reads tx (defs_of T) ws 0 T U (s.Select q) refl a.catalog alike a).tables.agree
      kept_agree s.Begin k a = agree
      kept_agree s.Commit k a = agree
      kept_agree (s.Save name) k a = agree
      kept_agree (s.Rollback name) k a = agree
      kept_agree s.Digest k a = agree
      kept_agree s.Image k a = agree

      pub alone_agree : (stmt : Stmt) → reads text ≡ Some stmt → creates stmt ≡ false → AgreeFor T U (requests_of (defs_of T) false stmt)
          → AllByRecursion (AgreeFor (script reads false T tx (text ∷ [])).state.tables (script reads false U tx (text ∷ [])).state.tables) ws
      unfolding script_from text_step
      alone_agree stmt e k a = rw e (kept_agree stmt k a)
