-- What holds of the tables to which a legal journal leads.
use Rattle.std.specs.Prelude.{ℕ, suc, ◌==◌, ◌≡◌, ◌⊎◌, if◌then◌else◌, List, [], ◌∷◌, IfSome}
use Rattle.std.specs.List.{AllByRecursion}
use Rattle.sql_types.specs.declared.journal.JournalItem.{JournalItem}
use Rattle.sql_types.specs.declared.journal.JournalItem.TheVariants.{Tx, Close}
use Rattle.sql_types.specs.declared.version.Table.{Table}
use Rattle.sql_types.specs.declared.version.Version.{Version}
use Rattle.spec_model.specs.Catalog.{Tables}
use Rattle.law_journal.specs.Fits.{FitsSoFar}
use Rattle.law_journal.specs.Kept.{IsNumbered, IsEarlier, AllApart}

-- how many transactions the journal has before the one with this id
abbrev pub place_in : List JournalItem → ℕ → ℕ
place_in [] id = 0
place_in (Tx other session time explicit lines ∷ is) id = if other == id then 0 else suc (place_in is id)
place_in (Close k ∷ is) id = place_in is id

-- the journal has a transaction with this id
abbrev pub HasTx : List JournalItem → ℕ → Type 0
HasTx [] id = ⊥
HasTx (Tx other session time explicit lines ∷ is) id = (other ≡ id) ⊎ HasTx is id
HasTx (Close k ∷ is) id = HasTx is id

-- its start is of a transaction of the journal, and its end, if it has one, too, and comes after the start
pub record IsOf (items : List JournalItem) (v : Version) : Type 0 where
  pub start : HasTx items v.start.0
  pub end : IfSome v.end (λ e. HasTx items e.0 × IsEarlier (place_in items) v.start e)

pub record TableOf (items : List JournalItem) (t : Table) : Type 0 where
  pub ids : AllByRecursion (IsOf items) t.versions
  -- of two versions of one key one ends before the other starts
  pub apart : AllApart (place_in items) t.def.columns t.versions
  pub fit : AllByRecursion (λ v. FitsSoFar t.def.columns v.values) t.versions

pub record TablesOf (items : List JournalItem) (tables : Tables) : Type 0 where
  -- the events of each transaction have the numbers from 0 on, without a gap, and each stands once
  pub numbered : (id : ℕ) → (k : ℕ) × IsNumbered id k tables
  pub each : AllByRecursion (TableOf items) tables
