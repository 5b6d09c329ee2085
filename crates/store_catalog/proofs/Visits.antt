-- Locks leave the rest of the cell.
use Rattle.std.proofs.Common.{◌≡◌, ℕ, refl, Bool, true, false, List, Option, Some, None}
use Rattle.std.specs.Prelude.{◌==◌, if◌then◌else◌}
use Rattle.sql_value.specs.declared.refusal.Refusal.{Refusal}
use Rattle.sql_types.specs.declared.lock.Hold.{Hold}
use Rattle.sql_types.specs.declared.statement.Stmt.{Stmt}
use Rattle.sql_types.specs.declared.statement.Stmt.TheVariants as s
use Rattle.spec_protocol.specs.CatalogVisits.{alters_in, with_holds, CreateRefused}
use Rattle.spec_protocol.specs.Cells.{Creator, CatalogCell}
use Rattle.spec_protocol.specs.UndoVisits.{creator_left}

pub same_refused : (holds : List Hold) (c : CatalogCell) (stmt : Stmt) (e : Refusal) → CreateRefused (with_holds holds c) stmt e → CreateRefused c stmt e
same_refused holds c (s.Create create) e h = h
same_refused holds c (s.Index create) e h = h
same_refused holds c (s.Alter altered) e h = h
same_refused holds c (s.Drop name) e h = h
same_refused holds c (s.Change stmt) e h = absurd h
same_refused holds c (s.Select q) e h = absurd h
same_refused holds c s.Begin e h = absurd h
same_refused holds c s.Commit e h = absurd h
same_refused holds c (s.Save name) e h = absurd h
same_refused holds c (s.Rollback name) e h = absurd h
same_refused holds c s.Digest e h = absurd h
same_refused holds c s.Image e h = absurd h

pub same_alters : (holds : List Hold) (c : CatalogCell) (stmt : Stmt) → alters_in (with_holds holds c) stmt ≡ alters_in c stmt
same_alters holds c (s.Create create) = refl
same_alters holds c (s.Index create) = refl
same_alters holds c (s.Alter altered) = refl
same_alters holds c (s.Drop name) = refl
same_alters holds c (s.Change stmt) = refl
same_alters holds c (s.Select q) = refl
same_alters holds c s.Begin = refl
same_alters holds c s.Commit = refl
same_alters holds c (s.Save name) = refl
same_alters holds c (s.Rollback name) = refl
same_alters holds c s.Digest = refl
same_alters holds c s.Image = refl

pub left_twice : (tx : ℕ) (k : Option Creator) → creator_left tx (creator_left tx k) ≡ creator_left tx k
left_twice tx None = refl
left_twice tx (Some k) = by (k.tx == tx) refl
  where
    by : (b : Bool) → (k.tx == tx) ≡ b → creator_left tx (if b then None else Some k) ≡ (if b then None else Some k)
    by true e = refl
    by false e = rw e refl
