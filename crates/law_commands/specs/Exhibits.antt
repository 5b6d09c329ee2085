-- Images and digests that stand in a vault.
use Rattle.std.specs.Prelude.{ℕ, ◌≡◌, ◌≤◌, List, length, map, IfNone, OnSome, Option, Ok}
use Rattle.base_io.specs.Store.{Names, Bytes}
use Rattle.sql_types.specs.declared.digest.Digest.{Digest}
use Rattle.sql_types.specs.declared.digest.HeldDigest.{HeldDigest}
use Rattle.sql_types.specs.declared.journal.Journal.{Journal}
use Rattle.sql_types.specs.declared.journal.TheConstants.{JOURNAL_VERSION}
use Rattle.spec_history.specs.Lists.{Each, In}
use Rattle.spec_syntax.specs.Text.{statement_of}
use Rattle.spec_protocol.specs.Seats.{KeptImage}
use Rattle.spec_verify.specs.declared.place.Verdict.TheVariants.{Yes}
use Rattle.spec_verify.specs.Bytes.{verdict_of}
use Rattle.format_digest.specs.Reading.{IsRead}
use Rattle.format_journal.specs.Journal.{journal_bytes}
use Rattle.format_journal.specs.Rules.{IsJournal}
use Rattle.law_headline.specs.Accepted.{IsOfCut}
use Rattle.law_headline.specs.Held.{held, AllHeld}
use Rattle.law_headline.specs.LastImage.{last_image_bytes}
use Rattle.server_result.specs.declared.ran.RunOutcome.{RunOutcome as Output}
use Rattle.cli_commands.specs.Names.{image_limit, digests_limit}
use Rattle.cli_commands.specs.Files.{image_name, journal_name}
use Rattle.cli_commands.specs.Run.{cut_name, digests_name}

-- an image stands under the name, which `verify` and `extract` may read
pub record HoldsImage (names : Names) (name bytes : List ℕ) : Type 0 where
  pub there : names name ≡ Bytes bytes
  pub fits : length bytes ≤ image_limit

-- a file of these digests stands under the name, which they may read
pub record HoldsDigests (names : Names) (name : List ℕ) (digests : List HeldDigest) : Type 0 where
  pub file : List ℕ
  pub there : names name ≡ Bytes file
  pub fits : length file ≤ digests_limit
  pub read : IsRead file (Ok digests)

-- under two names stand an image and digests with which it is accepted
pub record IsExhibit (h : List ℕ → List ℕ) (names : Names) (image digests bytes : List ℕ)
    (held_ones : List HeldDigest) : Type 0 where
  pub image_is : HoldsImage names image bytes
  pub digests_are : HoldsDigests names digests held_ones
  pub accepted : verdict_of h held_ones bytes ≡ Yes

-- a journal that has a spelling stands under the name
pub record HoldsJournal (names : Names) (name : List ℕ) (J : Journal) : Type 0 where
  pub there : names name ≡ Bytes (journal_bytes J)
  pub spelling : IsJournal J

-- these digests are of blocks that the journal closed, where a text is the statement that it is for a server
abbrev pub AreDigestsOf : (List ℕ → List ℕ) → Journal → List HeldDigest → Type 0
AreDigestsOf h J digests = AllHeld h statement_of J.database J.items digests

-- what an auditor holds of the digests that a run issued
abbrev pub held_of : Output → List HeldDigest
held_of o = map held o.digests

-- What the run of an input saved, where this is its file of digests, stands in the vault: the image of the whole
-- journal is accepted with all digests that were issued, which are in that file; and each that was kept with any
-- digests of its blocks. They are within the limits of what is read, to which the file of digests keeps where it
-- is told of what input it is. And so does the journal, which is of a server's version, and closed the blocks of all
-- the digests.
pub record AreExhibits (h : List ℕ → List ℕ) (names : Names) (save : List ℕ) (input : Option (List ℕ))
    (o : Output) (file : List ℕ) : Type 0 where
  pub fits : OnSome input (length file ≤ digests_limit)
  pub whole : length o.image ≤ image_limit → IfNone input (length file ≤ digests_limit)
      → IsExhibit h names (image_name save) (digests_name save) o.image (map held o.digests)
  pub kept : (k : KeptImage) → In k o.images → length k.1 ≤ image_limit
      → (name : List ℕ) (digests : List Digest) → HoldsDigests names name (map held digests)
      → Each (IsOfCut o.journal.items k.0 o.digests) digests
      → IsExhibit h names (cut_name save k.0) name k.1 (map held digests)
  pub journal : HoldsJournal names (journal_name save) o.journal
  pub version : o.journal.version ≡ JOURNAL_VERSION
  pub image : o.image ≡ last_image_bytes h o.journal
  pub closed : AreDigestsOf h o.journal (held_of o)

-- an image within the limit of what is read is accepted with any digests of blocks that this journal closed
abbrev pub IsExhibitBehind : (List ℕ → List ℕ) → Names → Journal → List ℕ → List ℕ → Type 0
IsExhibitBehind h names J image bytes = length bytes ≤ image_limit
    → (name : List ℕ) (digests : List HeldDigest) → HoldsDigests names name digests → AreDigestsOf h J digests
    → IsExhibit h names image name bytes digests

-- What a run saved that went on from this journal stands in the vault: each image is accepted with any digests of
-- blocks that the journal closed, whenever they were issued. These blocks stay closed in the journal that the run left,
-- from which a later one may go on.
pub record AcceptThePast (h : List ℕ → List ℕ) (names : Names) (save : List ℕ) (J : Journal) (o : Output)
    : Type 0 where
  pub whole : IsExhibitBehind h names J (image_name save) o.image
  pub kept : (k : KeptImage) → In k o.images → IsExhibitBehind h names J (cut_name save k.0) k.1
  pub stay : (digests : List HeldDigest) → AreDigestsOf h J digests → AreDigestsOf h o.journal digests
