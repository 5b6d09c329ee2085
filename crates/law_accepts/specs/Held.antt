-- What an auditor holds of the digests of a journal.
use Rattle.std.specs.Prelude.{ℕ, ◌≡◌, ◌<◌, List}
use Rattle.std.specs.List.{AllByRecursion}
use Rattle.sql_types.specs.declared.digest.HeldDigest.{HeldDigest}
use Rattle.sql_types.specs.declared.journal.JournalItem.{JournalItem}
use Rattle.spec_model.specs.Script.{Reading}
use Rattle.spec_history.specs.Digests.{Digest}
use Rattle.spec_history.specs.Journals.{blocks}
use Rattle.spec_ledger.specs.Ledger.{block_hash}

-- a digest without its two times
abbrev pub held : Digest → HeldDigest
held d = record { database = d.database; block = d.block; hash = d.hash }

module _ (h : List ℕ → List ℕ) (reads : Reading) (database : List ℕ) (items : List JournalItem) where
  -- it is of a block that is closed in these items: it has their database and that block's hash
  pub record IsHeld (d : HeldDigest) : Type 0 where
    pub of : d.database ≡ database
    pub closed : d.block < blocks items
    pub hash : d.hash ≡ block_hash h reads items d.block

  abbrev pub AllHeld : List HeldDigest → Type 0
  AllHeld digests = AllByRecursion IsHeld digests
