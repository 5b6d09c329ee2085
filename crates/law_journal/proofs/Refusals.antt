-- A statement that is refused leaves all as it was.
use Rattle.std.proofs.Common.{◌≡◌, ℕ, refl, Bool, true, false, List, [], ◌∷◌, length, Option, Some, None, Ok, Err}
use Rattle.std.specs.Prelude.{if◌then◌else◌, nat_lt}
use Rattle.sql_value.specs.declared.refusal.Refusal.{Refusal}
use Rattle.sql_value.specs.declared.refusal.Refusal.TheVariants.{LimitExceeded}
use Rattle.sql_types.specs.declared.statement.Alter.{Alter}
use Rattle.sql_types.specs.declared.statement.Stmt.{Stmt}
use Rattle.sql_types.specs.declared.statement.Stmt.TheVariants as s
use Rattle.sql_types.specs.declared.statement.RowStmt.{RowStmt}
use Rattle.sql_types.specs.declared.statement.CreateTable.{CreateTable}
use Rattle.sql_types.specs.declared.statement.CreateIndex.{CreateIndex}
use Rattle.sql_types.specs.declared.statement.Select.{Select}
use Rattle.sql_types.specs.declared.table.TableDef.{TableDef}
use Rattle.sql_types.specs.declared.table.IndexDef.{IndexDef}
use Rattle.sql_types.specs.declared.reply.Reply.TheVariants as r
use Rattle.spec_model.specs.Refusals.{Checked}
use Rattle.spec_model.specs.Limits.{max_savepoints}
use Rattle.spec_model.specs.Rows.{Row}
use Rattle.spec_model.specs.Changes.{Changes, row_changes}
use Rattle.spec_model.specs.Catalog.{NamedPart, defs_of, versions_of}
use Rattle.spec_model.specs.Checks.{row_statement_check}
use Rattle.spec_model.specs.Query.{query_check}
use Rattle.spec_model.specs.Create.{create_check, index_check}
use Rattle.spec_model.specs.Effect.{Effect, done, row_effect, shown, query_rows, query_effect, table_effect, index_effect, altered_effect, effect}
use Rattle.spec_model.specs.Alter.{Altered, alteration, table_drop}
use Rattle.spec_model.specs.SystemTables.{tables_id, columns_id}
use Rattle.spec_model.specs.Script.{Saved, State, Step, refuses, by_effect, saves, back_to, rolled_back, rolls_back_to, in_transaction, alone, by_statement}

abbrev Leaves : State → Refusal → Step → Type 0
Leaves x e p = p.1 ≡ r.Refused e → p.0 ≡ x

module _ (tx : ℕ) (x : State) (e : Refusal) where
  abbrev LeavesBy : Effect → Type 0
  LeavesBy f = Leaves x e (by_effect x f)

  by_done : (id : ℕ) (m : Checked Changes) → LeavesBy (done x.tables tx x.seq id m)
  by_done id (Ok c) is = cc
  by_done id (Err k) is = refl

  by_row : (stmt : RowStmt) (m : Checked TableDef) → LeavesBy (row_effect x.tables tx x.seq stmt m)
  by_row stmt (Ok def) is = by_done def.id (row_changes def (versions_of x.tables def.id) stmt) is
  by_row stmt (Err k) is = refl

  by_shown : (m : Checked (List Row)) → LeavesBy (shown x.tables x.seq m)
  by_shown (Ok rows) is = refl
  by_shown (Err k) is = refl

  by_query : (q : Select) (m : Checked NamedPart) → LeavesBy (query_effect x.tables x.seq q m)
  by_query q (Ok n) is = by_shown (query_rows q n (versions_of x.tables n.0.id)) is
  by_query q (Err k) is = refl

  by_table : (m : Checked TableDef) → LeavesBy (table_effect x.tables tx x.seq m)
  by_table (Ok def) is = cc
  by_table (Err k) is = refl

  by_index : (m : Checked (TableDef × IndexDef)) → LeavesBy (index_effect x.tables tx x.seq m)
  by_index (Ok y) is = cc
  by_index (Err k) is = refl

  by_altered : (m : Checked Altered) → LeavesBy (altered_effect x.tables tx x.seq m)
  by_altered (Ok a) is = cc
  by_altered (Err k) is = refl

  by_change : (stmt : RowStmt) → LeavesBy (effect x.tables tx x.seq (s.Change stmt))
  unfolding effect
  by_change stmt is = by_row stmt (row_statement_check (defs_of x.tables) stmt) is

  by_select : (q : Select) → LeavesBy (effect x.tables tx x.seq (s.Select q))
  unfolding effect
  by_select q is = by_query q (query_check (defs_of x.tables) q) is

  by_create : (c : CreateTable) → LeavesBy (effect x.tables tx x.seq (s.Create c))
  unfolding effect
  by_create c is = by_table (create_check (defs_of x.tables) c) is

  by_create_index : (c : CreateIndex) → LeavesBy (effect x.tables tx x.seq (s.Index c))
  unfolding effect
  by_create_index c is = by_index (index_check (defs_of x.tables) c) is

  by_alter : (a : Alter) → LeavesBy (effect x.tables tx x.seq (s.Alter a))
  unfolding effect
  by_alter a is = by_altered (alteration (defs_of x.tables) (versions_of x.tables tables_id) (versions_of x.tables columns_id) a) is

  by_drop : (name : List ℕ) → LeavesBy (effect x.tables tx x.seq (s.Drop name))
  unfolding effect
  by_drop name is = by_altered (table_drop (defs_of x.tables) (versions_of x.tables tables_id) (versions_of x.tables columns_id) name) is

  branch : (b : Bool) (y : State) → Leaves x e (if b then (y, r.Saved) else refuses x LimitExceeded)
  branch true y is = cc
  branch false y is = refl

  by_save : (name : List ℕ) → Leaves x e (saves x name)
  unfolding saves
  by_save name is = branch (nat_lt (length x.saved) max_savepoints) (record { tables = x.tables; seq = x.seq; saved = record { name = name; tables = x.tables; seq = x.seq } ∷ x.saved }) is

  by_back : (saved : List Saved) → Leaves x e (rolled_back x saved)
  by_back [] is = refl
  by_back (c ∷ cs) is = cc

  by_return : (name : List ℕ) → Leaves x e (rolls_back_to x name)
  unfolding rolls_back_to
  by_return name is = by_back (back_to x.saved name) is

  opened_leaves : (stmt : Stmt) → Leaves x e (in_transaction tx x stmt)
  opened_leaves (s.Create c) is = refl
  opened_leaves (s.Index c) is = refl
  opened_leaves (s.Alter altered) is = refl
  opened_leaves (s.Drop name) is = refl
  opened_leaves (s.Change stmt) is = by_change stmt is
  opened_leaves (s.Select q) is = by_select q is
  opened_leaves s.Begin is = refl
  opened_leaves s.Commit is = refl
  opened_leaves (s.Save name) is = by_save name is
  opened_leaves (s.Rollback (Some name)) is = by_return name is
  opened_leaves (s.Rollback None) is = refl
  opened_leaves s.Digest is = refl
  opened_leaves s.Image is = refl

  alone_leaves : (stmt : Stmt) → Leaves x e (alone tx x stmt)
  alone_leaves (s.Create c) is = by_create c is
  alone_leaves (s.Index c) is = by_create_index c is
  alone_leaves (s.Alter a) is = by_alter a is
  alone_leaves (s.Drop name) is = by_drop name is
  alone_leaves (s.Change stmt) is = by_change stmt is
  alone_leaves (s.Select q) is = by_select q is
  alone_leaves s.Begin is = refl
  alone_leaves s.Commit is = refl
  alone_leaves (s.Save name) is = refl
  alone_leaves (s.Rollback name) is = refl
  alone_leaves s.Digest is = refl
  alone_leaves s.Image is = refl

  pub refused_leaves : (explicit : Bool) (o : Option Stmt) → Leaves x e (by_statement explicit tx x o)
  refused_leaves explicit None is = refl
  refused_leaves true (Some stmt) is = opened_leaves stmt is
  refused_leaves false (Some stmt) is = alone_leaves stmt is
