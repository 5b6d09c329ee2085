-- The tables after a statement that changes definitions: these are those of its changes, and the versions of the tables
-- of users stay.
use Rattle.spec_protocol.specs.LocksCover.{IsRepliedTo}
use Rattle.sql_types.specs.declared.statement.Stmt.TheVariants as st
use Rattle.spec_model.specs.ChangeSets.{Definition, altered, altered_change_set, as_before, new, in_place, change_set, defined, changed_from, create_index_change_set, create_table_change_set}
use Rattle.std.proofs.Common.{Bool, Err, None, Ok, Option, Some, [], ap, false, refl, sym, true, ℕ, ◌++◌, ◌∙◌, ◌∷◌, ◌≡◌, ◌≢◌}
use Rattle.spec_model.specs.Refusals.{Checked}
use Rattle.spec_model.specs.Catalog.{Defs, Tables, defs_of, versions_of}
use Rattle.sql_types.specs.declared.table.IndexDef.{IndexDef}
use Rattle.spec_protocol.specs.Server.{Server}
use Rattle.spec_model.specs.Script.{State, Step, by_statement, script, start}
use Rattle.sql_types.specs.declared.statement.Stmt.{Stmt}
use Rattle.sql_types.specs.declared.table.TableDef.{TableDef}
use Rattle.spec_history.specs.Lists.{Text}
use Rattle.spec_protocol.specs.Cells.{catalog_at, cell_of}
use Rattle.spec_model.specs.Locks.{catalog_request, cell_requests}
use Rattle.law_protocol_steps.proofs.DefsAfter.{altered_not}
use Rattle.law_protocol_steps.proofs.NewLine.{changed_else}
use Rattle.law_frame.proofs.Alterations.{altering}
use Rattle.law_frame.proofs.Definitions.{changes_keep_defs}
use Rattle.law_frame.specs.Alters.{Altering}
use Rattle.spec_model.specs.Alter.{Altered, alteration, table_drop}
use Rattle.spec_model.specs.Create.{create_check, index_check, with_index}
use Rattle.law_journal.proofs.Created.{created}
use Rattle.spec_model.specs.Reach.{creates}
use Rattle.spec_model.specs.SystemTables.{columns_id, tables_id}
use Rattle.law_journal.proofs.DefLists.{defs_append, defs_redefined, redef}
use Rattle.spec_model.specs.Effect.{altered_effect, effect, index_effect, table_effect}
use Rattle.law_frame.proofs.AtTable.{new_table, redefined_table}
use Rattle.law_protocol_changes.proofs.CreateVisits.{not_columns, not_tables}
use Rattle.law_protocol_changes.proofs.Creating.{one_text, step_is}
use Rattle.law_frame.proofs.ChangeSets.{carries_change_set_out}
use Rattle.spec_model.specs.ScriptRequests.{text_requests}
use Rattle.spec_history.specs.Real.{requests_catalog}

-- a definition depends on the definitions alone
same_defined : (d : Definition) (U T : Tables) → defs_of U ≡ defs_of T → defs_of (defined d U) ≡ defs_of (defined d T)
same_defined as_before U T e = e
same_defined (new def) U T e = defs_append U (record { def = def; versions = [] }) ∙ ap (λ (ds : Defs). ds ++ def ∷ []) e ∙ sym (defs_append T (record { def = def; versions = [] }))
same_defined (in_place def) U T e = defs_redefined def U ∙ ap (redef def) e ∙ sym (defs_redefined def T)
same_defined (altered def) U T e = defs_redefined def U ∙ ap (redef def) e ∙ sym (defs_redefined def T)

pub effect_defs : (T : Tables) (tx seq : ℕ) (stmt : Stmt) → defs_of (effect T tx seq stmt).tables ≡ defs_of (defined (change_set T stmt).definition T)
effect_defs T tx seq stmt = ap (λ e. defs_of e.tables) (carries_change_set_out T tx seq stmt) ∙ same_defined (change_set T stmt).definition (changed_from tx seq (change_set T stmt).changes T) T (changes_keep_defs tx seq (change_set T stmt).changes T)

table_users : (T : Tables) (tx seq : ℕ) (m : Checked TableDef) (id : ℕ) → cell_of id ≢ catalog_at → versions_of (table_effect T tx seq m).tables id ≡ versions_of T id
table_users T tx seq (Ok def) id ne = new_table def id _ ∙ changed_else 2 id _ _ (not_columns id ne) ∙ changed_else 1 id _ T (not_tables id ne)
table_users T tx seq (Err r) id ne = refl

index_users : (T : Tables) (tx seq : ℕ) (m : Checked (TableDef × IndexDef)) (id : ℕ) → cell_of id ≢ catalog_at → versions_of (index_effect T tx seq m).tables id ≡ versions_of T id
index_users T tx seq (Ok x) id ne = redefined_table (with_index x.0 x.1) id _ ∙ changed_else 2 id _ _ (not_columns id ne) ∙ changed_else 1 id _ T (not_tables id ne)
index_users T tx seq (Err r) id ne = refl

altered_users : (T : Tables) (tx seq : ℕ) (m : Checked Altered) (id : ℕ) → cell_of id ≢ catalog_at → versions_of (altered_effect T tx seq m).tables id ≡ versions_of T id
altered_users T tx seq (Ok a) id ne = redefined_table a.def id _ ∙ changed_else 2 id _ _ (not_columns id ne) ∙ changed_else 1 id _ T (not_tables id ne)
altered_users T tx seq (Err r) id ne = refl

pub users_stay : (T : Tables) (tx seq : ℕ) (stmt : Stmt) → creates stmt ≡ true → (id : ℕ) → cell_of id ≢ catalog_at → versions_of (effect T tx seq stmt).tables id ≡ versions_of T id
unfolding effect
users_stay T tx seq (st.Create c) e id ne = table_users T tx seq (create_check (defs_of T) c) id ne
users_stay T tx seq (st.Index c) e id ne = index_users T tx seq (index_check (defs_of T) c) id ne
users_stay T tx seq (st.Alter a) e id ne = altered_users T tx seq (alteration (defs_of T) (versions_of T tables_id) (versions_of T columns_id) a) id ne
users_stay T tx seq (st.Drop name) e id ne = altered_users T tx seq (table_drop (defs_of T) (versions_of T tables_id) (versions_of T columns_id) name) id ne
users_stay T tx seq stmt e id ne = cc

by_created : (tx : ℕ) (T : Tables) (stmt : Stmt) → creates stmt ≡ true → (by_statement false tx (start T) (Some stmt)).0.tables ≡ (effect T tx 0 stmt).tables
by_created tx T (st.Create c) e = refl
by_created tx T (st.Index c) e = refl
by_created tx T (st.Alter a) e = refl
by_created tx T (st.Drop name) e = refl
by_created tx T stmt e = cc

-- a script that is this statement alone leaves them
pub created_tables : (v : Server) (tx : ℕ) (T : Tables) (text : Text) (stmt : Stmt) → v.reads text ≡ Some stmt → creates stmt ≡ true → (script v.reads false T tx (text ∷ [])).state.tables ≡ (effect T tx 0 stmt).tables
created_tables v tx T text stmt is e = ap (λ (q : State). q.tables) (one_text v tx T text) ∙ ap (λ (q : Step). q.0.tables) (step_is v tx T text ∙ ap (by_statement false tx (start T)) is) ∙ by_created tx T stmt e

-- ---- what the definitions are

pub data Makes (T : Tables) (stmt : Stmt) : Type 0 where
  makes_none : (change_set T stmt).definition ≡ as_before → Makes T stmt
  makes_table : (def : TableDef) → def.indexes ≡ [] → (change_set T stmt).definition ≡ new def → Makes T stmt
  makes_index : (def : TableDef) → (change_set T stmt).definition ≡ in_place def → Makes T stmt
  makes_altered : (def : TableDef) → Altering (defs_of T) def → (change_set T stmt).definition ≡ altered def → Makes T stmt

-- it puts a definition in the place of its table's, or is refused
if_altered : (T : Tables) (stmt : Stmt) (m : Checked Altered) → (change_set T stmt).definition ≡ (altered_change_set m).definition → Makes T stmt
if_altered T stmt (Ok a) e = makes_altered a.def (altering T a.def stmt e) e
if_altered T stmt (Err r) e = makes_none e

pub made_by : (T : Tables) (stmt : Stmt) → creates stmt ≡ true → Makes T stmt
unfolding change_set
made_by T (st.Create c) e = by (create_check (defs_of T) c) refl
  where
    by : (m : Checked TableDef) → create_check (defs_of T) c ≡ m → Makes T (st.Create c)
    by (Ok def) f = makes_table def (created (defs_of T) c def f).indexes (ap (λ m. (create_table_change_set m).definition) f)
    by (Err r) f = makes_none (ap (λ m. (create_table_change_set m).definition) f)
made_by T (st.Index c) e = by (index_check (defs_of T) c) refl
  where
    by : (m : Checked (TableDef × IndexDef)) → index_check (defs_of T) c ≡ m → Makes T (st.Index c)
    by (Ok x) f = makes_index (with_index x.0 x.1) (ap (λ m. (create_index_change_set m).definition) f)
    by (Err r) f = makes_none (ap (λ m. (create_index_change_set m).definition) f)
made_by T (st.Alter a) e = if_altered T (st.Alter a) (alteration (defs_of T) (versions_of T tables_id) (versions_of T columns_id) a) refl
made_by T (st.Drop name) e = if_altered T (st.Drop name) (table_drop (defs_of T) (versions_of T tables_id) (versions_of T columns_id) name) refl
made_by T stmt e = cc

-- ---- what wants nothing in the catalog wants nothing

pub same_request : (defs : Defs) (o : Bool) (q : Option Stmt) → (text_requests defs o q).catalog ≡ requests_catalog o q
same_request defs o None = refl
same_request defs o (Some stmt) = refl

no_request : (defs : Defs) (o : Bool) (stmt : Stmt) → catalog_request o stmt ≡ None → cell_requests defs stmt ≡ None
unfolding cell_requests
no_request defs o (st.Create c) e = refl
no_request defs o (st.Index c) e = refl
no_request defs o (st.Alter a) e = refl
no_request defs o (st.Drop name) e = refl
no_request defs true (st.Change row) e = cc
no_request defs false (st.Change row) e = cc
no_request defs true (st.Select q) e = cc
no_request defs false (st.Select q) e = cc
no_request defs o st.Begin e = refl
no_request defs o st.Commit e = refl
no_request defs o (st.Save name) e = refl
no_request defs o (st.Rollback name) e = refl
no_request defs o st.Digest e = refl
no_request defs o st.Image e = refl

pub no_requests : (D E : Defs) (o : Bool) (q : Option Stmt) → (text_requests D o q).catalog ≡ None → ((text_requests E o q).catalog ≡ None) × ((text_requests E o q).cell ≡ None)
no_requests D E o None e = (refl, refl)
no_requests D E o (Some stmt) e = (e, no_request E o stmt e)

-- what makes an index isn't replied to before it is added
pub index_later : (T : Tables) (stmt : Stmt) (def : TableDef) → creates stmt ≡ true → IsRepliedTo T (Some stmt) → (change_set T stmt).definition ≡ in_place def → ⊥
unfolding change_set
index_later T (st.Index c) def e g h = let z : as_before ≡ in_place def = sym g ∙ h in cc
index_later T (st.Create c) def e g h = by (create_check (defs_of T) c) h
  where
    by : (m : Checked TableDef) → (create_table_change_set m).definition ≡ in_place def → ⊥
    by (Ok d) f = let z : new d ≡ in_place def = f in cc
    by (Err r) f = let z : as_before ≡ in_place def = f in cc
index_later T (st.Alter a) def e g h = altered_not (alteration (defs_of T) (versions_of T tables_id) (versions_of T columns_id) a) def h
index_later T (st.Drop name) def e g h = altered_not (table_drop (defs_of T) (versions_of T tables_id) (versions_of T columns_id) name) def h
index_later T stmt def e g h = cc
