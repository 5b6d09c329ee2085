-- Digests that were issued of a journal when it was shorter.
use Rattle.std.specs.Prelude.{ℕ, ◌≡◌, ◌⊎◌, ◌<◌, ◌≤◌, ◌++◌, List, length}
use Rattle.sql_types.specs.declared.digest.Digest.{Digest}
use Rattle.sql_types.specs.declared.journal.JournalItem.{JournalItem}
use Rattle.spec_model.specs.Journals.{cut}
use Rattle.spec_history.specs.Digests.{IsDigest}
use Rattle.spec_history.specs.Journals.{blocks}
use Rattle.spec_history.specs.Lists.{Text}
use Rattle.spec_history.specs.Meaning.{Meaning}

-- a digest of a block that is closed in a journal with which this one begins, and which its first m items have
pub record IsEarlier (q : Meaning) (database : Text) (J : List JournalItem) (m : ℕ) (d : Digest) : Type 0 where
  pub front : List JournalItem
  pub rest : List JournalItem
  pub begins : J ≡ front ++ rest
  pub within : length front ≤ m
  pub digest : IsDigest q database front d
  pub closed : d.block < blocks front

-- one of the journal itself, of a block that is closed in its first m items
abbrev pub IsClosedIn : Meaning → Text → List JournalItem → ℕ → Digest → Type 0
IsClosedIn q database J m d = IsDigest q database J d × (d.block < blocks (cut J m))

abbrev pub IsOfIts : Meaning → Text → List JournalItem → ℕ → Digest → Type 0
IsOfIts q database J m d = IsEarlier q database J m d ⊎ IsClosedIn q database J m d
