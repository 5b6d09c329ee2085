-- What `replay` reads, puts, says and answers.
use Rattle.std.specs.Prelude.{◌≡◌, ◌⊎◌, ℕ, List, [], ◌∷◌, ◌++◌, length, codes, Option, Some, None, IfSome}
use Rattle.std.specs.Fmt.{decimal}
use Rattle.base_io.specs.Store.{Names}
use Rattle.sql_types.specs.declared.digest.HeldDigest.{HeldDigest}
use Rattle.sql_types.specs.declared.image.Image.{Image}
use Rattle.sql_types.specs.declared.journal.Journal.{Journal}
use Rattle.spec_model.specs.Journals.{tx_count}
use Rattle.spec_model.specs.LegalJournals.{IsLegalJournal}
use Rattle.spec_syntax.specs.Text.{reading_of}
use Rattle.format_journal.specs.Journal.{journal_bytes}
use Rattle.format_journal.specs.Rules.{IsJournal}
use Rattle.format_image.specs.Image.{image_of}
use Rattle.format_image.specs.ImageBytes.{image_bytes, IsImage}
use Rattle.spec_verify.specs.declared.place.Verdict.TheVariants.{Yes}
use Rattle.spec_verify.specs.Bytes.{verdict_of}
use Rattle.law_accepts.specs.Held.{AllHeld}
use Rattle.audit_replay.specs.Reached.{DiffersAt}
use Rattle.audit_replay.specs.declared.running.ReplayErr.{ReplayErr}
use Rattle.audit_replay.specs.declared.running.ReplayErr.TheVariants as errors
use Rattle.cli_audit.specs.declared.files.File.{File}
use Rattle.cli_audit.specs.declared.status.Status.{Status}
use Rattle.cli_audit.specs.declared.status.Status.TheVariants as status
use Rattle.cli_audit.specs.Answer.{HasPut, HasWritten}
use Rattle.cli_audit.specs.Files.{TellsHeld, image_name, image_file, journal_file, journal_name}
use Rattle.cli_audit.specs.Names.{IsInVault, LacksName, image_limit}

-- ---- what is read

-- these bytes stand under the name of a journal
abbrev pub IsUnderName : List ℕ → Option Names → List ℕ → Type 0
IsUnderName name names bytes = IfSome names (λ n. IsInVault (n name) image_limit bytes)

-- the bytes are those of this journal, which keeps its side rules
abbrev pub IsSpelled : Journal → List ℕ → Type 0
IsSpelled J bytes = IsJournal J × (bytes ≡ journal_bytes J)

-- the bytes are those of no journal
abbrev pub SpellsNone : List ℕ → Type 0
SpellsNone bytes = (J : Journal) → IsSpelled J bytes → ⊥

-- why bytes are refused as those of no journal
abbrev pub AreRefused : Status → List ℕ → Type 0
AreRefused (status.Journal None) bytes = SpellsNone bytes
AreRefused status.Memory bytes = Unit {0}
AreRefused _ bytes = ⊥

-- it is legal, where a text is the statement that it is in journals of its version
abbrev pub IsLegalInVersion : Journal → Type 0
IsLegalInVersion J = IsLegalJournal (reading_of J.version) J

-- this statement of this item, both from 0, is the first that is answered otherwise when the journal is run
-- again, so it isn't legal
pub record IsIllegalAt (J : Journal) (item statement : ℕ) : Type 0 where
  pub not_legal : IsLegalInVersion J → ⊥
  pub differs : DiffersAt (reading_of J.version) (errors.Differs item statement) J.items

-- why a journal has no image
abbrev pub IsIllegal : Status → Journal → Type 0
IsIllegal (status.Journal (Some at)) J = IsIllegalAt J at.0 at.1
IsIllegal status.Memory J = Unit {0}
IsIllegal _ J = ⊥

-- the status where a journal has no image
abbrev pub replay_status : ReplayErr → Status
replay_status (errors.Differs item statement) = status.Journal (Some (item, statement))
replay_status errors.Memory = status.Memory

-- such a journal stands under the name
pub record JournalUnder (name : List ℕ) (names : Option Names) (Such : Journal → Type 0) : Type 0 where
  pub J : Journal
  pub bytes : List ℕ
  pub is_in_vault : IsUnderName name names bytes
  pub spelled : IsSpelled J bytes
  pub such : Such J

-- a legal journal stands under the name
abbrev pub LegalUnder : List ℕ → Option Names → Type 0
LegalUnder name names = JournalUnder name names IsLegalInVersion

-- ---- what is put and written

-- the bytes of the image to which a journal leads
abbrev pub replayed_image : (List ℕ → List ℕ) → Journal → List ℕ
replayed_image h J = image_bytes (image_of h (reading_of J.version) J.database J.items)

-- what is saved under a name, in the order in which it is put
abbrev pub replayed_files : (List ℕ → List ℕ) → List ℕ → Journal → List File
replayed_files h save J = image_file save (replayed_image h J) ∷ journal_file save J ∷ []

-- the line of so many transactions
abbrev pub replayed_text : ℕ → List ℕ
replayed_text count = codes "replayed " ++ decimal count ++ 10 ∷ []

-- the legal journal under the name was run again: this is what was put and written of it
pub record SavesReplay (ended : Status) (h : List ℕ → List ℕ) (name save : List ℕ)
    (names_old names_new : Option Names) (taken_old taken_new : Option (List ℕ)) : Type 0 where
  pub read : LegalUnder name names_old
  pub put : HasPut ended (replayed_files h save read.J) names_old names_new
  pub written : HasWritten ended (replayed_text (tx_count read.J.items)) taken_old taken_new

-- whoever holds digests of blocks that the journal closed gets Yes for these bytes
abbrev pub IsAccepted : (List ℕ → List ℕ) → Journal → List ℕ → Type 0
IsAccepted h J image =
    (digests : List HeldDigest) → AllHeld h (reading_of J.version) J.database J.items digests
    → verdict_of h digests image ≡ Yes

-- the image that was put is accepted with any digests of blocks that the legal journal under the name closed
pub record PutsAccepted (h : List ℕ → List ℕ) (name save : List ℕ)
    (names_old names_new : Option Names) : Type 0 where
  pub read : LegalUnder name names_old
  pub image : List ℕ
  pub put : TellsHeld names_old names_new (image_name save) image
  pub accepted : IsAccepted h read.J image

-- this is put and written of these bytes of a journal and of an image with so many entries
pub record HasOutput (save journal image : List ℕ) (count : ℕ)
    (made : List File) (line : List ℕ) : Type 0 where
  pub files : made ≡ image_file save image ∷ record { name = journal_name save; bytes = journal } ∷ []
  pub text : line ≡ replayed_text count

-- the image to which the legal journal with these bytes leads
pub record IsImageOf (h : List ℕ → List ℕ) (bytes : List ℕ) (image : Image) : Type 0 where
  pub J : Journal
  pub spelled : IsSpelled J bytes
  pub legal : IsLegalInVersion J
  pub made : image ≡ image_of h (reading_of J.version) J.database J.items
  pub spelling : IsImage image
  pub count : length image.entries ≡ tx_count J.items
  pub accepted : IsAccepted h J (image_bytes image)

-- by the status, a legal journal was run again, or no name has changed and the sink wasn't called; a fault of
-- the vault and want of memory may come before and behind
abbrev pub ReplayedOrIdle : Status → Type 0 → Type 0 → Type 0
ReplayedOrIdle status.Done replayed idle = replayed
ReplayedOrIdle status.SinkFault replayed idle = replayed
ReplayedOrIdle status.VaultFault replayed idle = replayed ⊎ idle
ReplayedOrIdle status.Memory replayed idle = replayed ⊎ idle
ReplayedOrIdle _ replayed idle = idle

-- ---- why a status comes

-- why bytes lead to no image
abbrev pub LacksImage : Status → List ℕ → Type 0
LacksImage (status.Journal None) bytes = SpellsNone bytes
LacksImage (status.Journal (Some at)) bytes =
    (J : Journal) × IsSpelled J bytes × IsIllegalAt J at.0 at.1
LacksImage status.Memory bytes = Unit {0}
LacksImage _ bytes = ⊥

-- why no journal stands under a name
abbrev pub LacksJournal : Status → List ℕ → Option Names → Type 0 → Type 0
LacksJournal status.Limit name names vault = LacksName status.Limit 1 image_limit names name
LacksJournal (status.Missing which) name names vault = LacksName (status.Missing which) 1 image_limit names name
LacksJournal (status.Journal None) name names vault =
    (bytes : List ℕ) × IsUnderName name names bytes × SpellsNone bytes
LacksJournal status.VaultFault name names vault = vault
LacksJournal status.Memory name names vault = Unit {0}
LacksJournal _ name names vault = ⊥

-- why what stands under a name leads to no image
abbrev pub LacksReplay : Status → List ℕ → Option Names → Type 0 → Type 0
LacksReplay (status.Journal (Some at)) name names vault =
    JournalUnder name names (λ J. IsIllegalAt J at.0 at.1)
LacksReplay ended name names vault = LacksJournal ended name names vault

-- Why a status comes. The causes exclude one another but for those of faults and want of memory, so each
-- comes exactly where its cause stands, unless a fault or want of memory comes before it.
abbrev pub ReplayCause : Status → List ℕ → Option Names → Type 0 → Type 0 → Type 0
ReplayCause status.Done name names vault sink = LegalUnder name names
ReplayCause status.SinkFault name names vault sink = sink
ReplayCause ended name names vault sink = LacksReplay ended name names vault
