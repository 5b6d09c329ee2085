-- Where no statement drops anything, nothing was dropped.
use Rattle.std.proofs.Common.{◌≡◌, ℕ, refl, sym, subst, Bool, true, false, List, [], ◌∷◌, Some, Ok, Err}
use Rattle.std.specs.List.{AllByRecursion}
use Rattle.sql_types.specs.declared.journal.JournalItem.{JournalItem}
use Rattle.sql_types.specs.declared.statement.CreateIndex.{CreateIndex}
use Rattle.sql_types.specs.declared.statement.CreateTable.{CreateTable}
use Rattle.sql_types.specs.declared.statement.Stmt.{Stmt}
use Rattle.sql_types.specs.declared.statement.Stmt.TheVariants as s
use Rattle.sql_types.specs.declared.table.IndexDef.{IndexDef}
use Rattle.sql_types.specs.declared.table.TableDef.{TableDef}
use Rattle.sql_types.specs.Versions.{has_statement}
use Rattle.spec_model.specs.Catalog.{Defs, NamedPart, Tables, defs_of, find_part}
use Rattle.spec_model.specs.ChangeSets.{Definition, as_before, new, in_place, altered, defined, create_table_change_set, create_index_change_set, change_set, changed_from}
use Rattle.spec_model.specs.Create.{create_check, index_check, table_def}
use Rattle.spec_model.specs.Effect.{Effect, effect}
use Rattle.spec_model.specs.Journals.{serial, IsLegal}
use Rattle.spec_model.specs.Reach.{creates}
use Rattle.spec_model.specs.Refusals.{Checked}
use Rattle.spec_model.specs.Runs.{Sound}
use Rattle.spec_model.specs.Script.{Reading}
use Rattle.spec_model.specs.SystemTables.{first_tables}
use Rattle.law_frame.proofs.Alls.{all_append}
use Rattle.law_frame.proofs.ChangeSets.{carries_change_set_out}
use Rattle.law_frame.proofs.Definitions.{changes_keep_defs, change_set_keeps}
use Rattle.law_frame.proofs.NamedPart.{named_part}
use Rattle.law_journal.proofs.Created.{Indexed, indexed}
use Rattle.law_journal.proofs.DefLists.{defs_append, defs_redefined}
use Rattle.law_catalog_rows.proofs.Forms.{in_its_place, new_def}
use Rattle.law_catalog_rows.proofs.KeptByJournals.{legal_keeps}
use Rattle.format_image.specs.DefBytes.{NothingDropped}

abbrev pub AllStand : Tables → Type 0
AllStand T = AllByRecursion NothingDropped (defs_of T)

-- ---- a definition that is made

abbrev LeavesAll : Definition → Type 0
LeavesAll as_before = Unit {0}
LeavesAll (new def) = NothingDropped def
LeavesAll (in_place def) = NothingDropped def
LeavesAll (altered def) = NothingDropped def

defined_stand : (d : Definition) (U : Tables) → LeavesAll d → AllStand U → AllStand (defined d U)
defined_stand as_before U one all = all
defined_stand (new def) U one all =
    subst (AllByRecursion NothingDropped) (sym (defs_append U (record { def = def; versions = [] }))) (all_append NothingDropped (defs_of U) (def ∷ []) all (one, tt))
defined_stand (in_place def) U one all = subst (AllByRecursion NothingDropped) (sym (defs_redefined def U)) (in_its_place def NothingDropped (defs_of U) one all)
defined_stand (altered def) U one all = subst (AllByRecursion NothingDropped) (sym (defs_redefined def U)) (in_its_place def NothingDropped (defs_of U) one all)

new_stands : (defs : Defs) (c : CreateTable) (m : Checked TableDef) → create_check defs c ≡ m → LeavesAll (create_table_change_set m).definition
unfolding table_def
new_stands defs c (Err e) is = tt
new_stands defs c (Ok def) is = subst NothingDropped (sym (new_def defs c def is).is) (record { gone = refl; dropped = refl })

found_stands : (defs : Defs) (name : List ℕ) (found : NamedPart) → find_part defs name ≡ Some found → AllByRecursion NothingDropped defs → NothingDropped found.0
unfolding find_part
found_stands [] name found e all = cc
found_stands (d ∷ ds) name found e all = named_part d _ _ _ _ (find_part ds name) found (λ n. NothingDropped n.0) e all.0 all.0 all.0 (λ h. found_stands ds name found h all.1)

index_stands : (defs : Defs) (c : CreateIndex) (m : Checked (TableDef × IndexDef)) → index_check defs c ≡ m → AllByRecursion NothingDropped defs → LeavesAll (create_index_change_set m).definition
index_stands defs c (Err e) is all = tt
index_stands defs c (Ok x) is all =
    let i : Indexed defs x = indexed defs c x is in
    let own : NothingDropped x.0 = subst NothingDropped i.is (found_stands defs i.table i.found i.by_name all) in
    record { gone = own.gone; dropped = own.dropped }

-- ---- statements that journals of version 1 have

creating : (T : Tables) (stmt : Stmt) (b : Bool) → creates stmt ≡ b → has_statement 1 stmt ≡ true → AllStand T → LeavesAll (change_set T stmt).definition
unfolding change_set
creating T stmt false e first all = subst LeavesAll (sym (change_set_keeps T stmt e)) tt
creating T (s.Create c) true e first all = new_stands (defs_of T) c (create_check (defs_of T) c) refl
creating T (s.Index c) true e first all = index_stands (defs_of T) c (index_check (defs_of T) c) refl all
creating T (s.Alter a) true e first all = cc
creating T (s.Drop name) true e first all = cc
creating T (s.Change stmt) true e first all = cc
creating T (s.Select q) true e first all = cc
creating T s.Begin true e first all = cc
creating T s.Commit true e first all = cc
creating T (s.Save name) true e first all = cc
creating T (s.Rollback name) true e first all = cc
creating T s.Digest true e first all = cc
creating T s.Image true e first all = cc

keeps_all : (tx seq : ℕ) (T : Tables) (stmt : Stmt) → Sound tx seq T → has_statement 1 stmt ≡ true → AllStand T → AllStand (effect T tx seq stmt).tables
keeps_all tx seq T stmt s first all =
    let p = change_set T stmt in
    subst (λ (e : Effect). AllStand e.tables) (sym (carries_change_set_out T tx seq stmt))
    (defined_stand p.definition (changed_from tx seq p.changes T) (creating T stmt (creates stmt) refl first all)
    (subst (AllByRecursion NothingDropped) (sym (changes_keep_defs tx seq p.changes T)) all))

first_stand : AllStand first_tables
unfolding first_tables
first_stand = (record { gone = refl; dropped = refl }, (record { gone = refl; dropped = refl }, tt))

-- ---- journals

pub all_stand : (reads : Reading) → ((text : List ℕ) (stmt : Stmt) → reads text ≡ Some stmt → has_statement 1 stmt ≡ true) → (items : List JournalItem) → IsLegal reads items → AllStand (serial reads items)
all_stand reads first items legal = (legal_keeps (λ stmt. has_statement 1 stmt ≡ true) AllStand keeps_all reads first items legal first_stand).2
