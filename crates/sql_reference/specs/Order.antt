-- What holds of the plain machine between two calls, as long as none wanted memory.
use Rattle.std.specs.Prelude.{ℕ, ◌≡◌, ◌≤◌, false, List, [], ◌∷◌, Option, Some, None}
use Rattle.std.specs.List.{AllByRecursion}
use Rattle.sql_types.specs.declared.journal.JournalItem.{JournalItem}
use Rattle.sql_types.specs.declared.journal.JournalItem.TheVariants.{Tx, Close}
use Rattle.spec_model.specs.Catalog.{Tables}
use Rattle.spec_model.specs.Runs.{MadeBefore}
use Rattle.spec_model.specs.Script.{Saved}
use Rattle.spec_model.specs.Undo.{undone}
use Rattle.law_journal.specs.Kept.{Kept}
use Rattle.law_journal.specs.Described.{Described}
use Rattle.sql_reference.specs.Machine.{Running, Machine}

-- no version was started or ended by this transaction
abbrev pub IsNew : ℕ → Tables → Type 0
IsNew tx tables = AllByRecursion (λ t. AllByRecursion (MadeBefore tx 0) t.versions) tables

-- an item whose transaction has no event in these tables, or a closing
abbrev pub IsNewItem : JournalItem → Tables → Type 0
IsNewItem (Tx id session time explicit lines) tables = IsNew id tables
IsNewItem (Close k) tables = Unit {0}

-- tables over which each new transaction may begin
pub record Steady (tables : Tables) : Type 0 where
  pub ready : (tx : ℕ) → IsNew tx tables → (place : ℕ → ℕ) × Kept place tx 0 tables
  pub described : Described tables

-- numbers that never rise, from this one on
abbrev pub NeverRise : ℕ → List Saved → Type 0
NeverRise n [] = Unit {0}
NeverRise n (c ∷ cs) = (c.seq ≤ n) × NeverRise c.seq cs

-- a script that came to this state
pub record InScript (x : Running) : Type 0 where
  pub place : ℕ → ℕ
  pub kept : Kept place x.tx x.state.seq x.state.tables
  pub described : Described x.state.tables
  -- each copy of a savepoint is what undo by its number gives
  pub copies : AllByRecursion (λ c. undone x.tx c.seq x.state.tables ≡ c.tables) x.state.saved
  pub copies_kept : AllByRecursion (λ c. Kept place x.tx c.seq c.tables × Described c.tables) x.state.saved
  pub numbers : NeverRise x.state.seq x.state.saved
  -- only a transaction that BEGIN opened has savepoints
  pub alone : x.explicit ≡ false → x.state.saved ≡ []

abbrev pub IsInScript : Option Running → Type 0
IsInScript None = Unit {0}
IsInScript (Some x) = InScript x

pub record InOrder (m : Machine) : Type 0 where
  pub steady : Steady m.tables
  pub script : IsInScript m.script
