-- A row statement that passes is on the base part of a user's table.
use Rattle.std.proofs.Common.{◌≡◌, ℕ, ◌<◌, refl, subst, Bool, true, false, List, [], ◌∷◌, Some, Ok, arith}
use Rattle.std.proofs.lemmas.Grind.{common_steps}
use Rattle.std.specs.Prelude.{nat_le, not, if◌then◌else◌}
use Rattle.sql_value.specs.declared.refusal.Refusal.TheVariants.{NameConflict, ReadOnlyTable, LimitExceeded}
use Rattle.sql_types.specs.declared.statement.RowStmt.{RowStmt}
use Rattle.sql_types.specs.declared.statement.RowStmt.TheVariants.{Insert, Update, Delete}
use Rattle.sql_types.specs.declared.table.TableDef.{TableDef}
use Rattle.sql_types.specs.declared.table.Part.{Part}
use Rattle.sql_types.specs.declared.table.Part.TheVariants.{Base, History, View, System}
use Rattle.spec_model.specs.Catalog.{is_named, Defs, NamedPart, own_part, find_part}
use Rattle.spec_model.specs.Checks.{is_standing, table_of, row_check, insert_check, update_check, delete_check, row_statement_check}
use Rattle.law_frame.proofs.Checked.{was_passed, not_refused}
use Rattle.law_frame.proofs.NamedPart.{named_part, Passed, passed}

-- the base part is of a table with an id above 2
abbrev pub IsUsers : NamedPart → Type 0
IsUsers n = n.1 ≡ Base → 2 < n.0.id

own_is_users : (def : TableDef) (b : Bool) → nat_le def.id 2 ≡ b → (if b then System else Base) ≡ Base → 2 < def.id
own_is_users def true e h = cc
own_is_users def false e h = grind (arith, common_steps)

pub found_is_users : (defs : Defs) (name : List ℕ) (found : NamedPart) → find_part defs name ≡ Some found → IsUsers found
unfolding find_part
found_is_users [] name found e = cc
found_is_users (d ∷ defs) name found e =
    named_part d (own_part d) (is_named d.name name) (is_named d.history name) (is_named d.view name) (find_part defs name) found IsUsers e
    (λ h. own_is_users d (nat_le d.id 2) refl h) (λ h. cc) (λ h. cc) (λ h. found_is_users defs name found h)

pub base_alone : (def : TableDef) (p : Part) → not (is_standing def p) ≡ false → p ≡ Base
base_alone def Base e = refl
base_alone def History e = cc
base_alone def View e = cc
base_alone def System e = cc

on_base : (stmt : RowStmt) (def : TableDef) (p : Part) → row_check stmt def p ≡ Ok tt → p ≡ Base
unfolding insert_check update_check delete_check
on_base (Insert table names rows) def p e = base_alone def p (was_passed _ ReadOnlyTable _ tt (not_refused _ LimitExceeded _ tt (not_refused _ NameConflict _ tt e)))
on_base (Update table sets cond) def p e = base_alone def p (was_passed _ ReadOnlyTable _ tt (not_refused _ NameConflict _ tt e))
on_base (Delete table cond) def p e = base_alone def p (was_passed _ ReadOnlyTable _ tt e)

pub users_table : (defs : Defs) (stmt : RowStmt) (def : TableDef) → row_statement_check defs stmt ≡ Ok def → 2 < def.id
users_table defs stmt def e =
    let p : Passed defs stmt def = passed defs stmt def e in
    subst (λ (d : TableDef). 2 < d.id) p.is (found_is_users defs (table_of stmt) p.found p.by_name (on_base stmt p.found.0 p.found.1 p.check))
