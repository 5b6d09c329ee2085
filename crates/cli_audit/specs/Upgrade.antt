-- What `upgrade` reads, puts, says and answers.
use Rattle.std.specs.Prelude.{◌≡◌, ◌⊎◌, ℕ, List, [], ◌∷◌, ◌++◌, codes, Option}
use Rattle.base_io.specs.Store.{Names}
use Rattle.sql_types.specs.declared.digest.HeldDigest.{HeldDigest}
use Rattle.sql_types.specs.declared.image.Image.{Image}
use Rattle.format_image.specs.ImageBytes.{image_bytes, IsImage, IsSpellingOf}
use Rattle.spec_verify.specs.Bytes.{verdict_of}
use Rattle.cli_audit.specs.declared.files.File.{File}
use Rattle.cli_audit.specs.declared.status.Status.{Status}
use Rattle.cli_audit.specs.declared.status.Status.TheVariants as status
use Rattle.cli_audit.specs.Answer.{HasPut, HasWritten}
use Rattle.cli_audit.specs.Files.{TellsHeld}
use Rattle.cli_audit.specs.Names.{LacksName, image_limit}
use Rattle.cli_audit.specs.Replay.{IsUnderName}
use Rattle.cli_audit.specs.Files.{image_name, image_file}

-- ---- what is read

-- the bytes are those of this image, in either version
abbrev pub IsSpelled : Image → List ℕ → Type 0
IsSpelled i bytes = IsImage i × IsSpellingOf bytes i

-- the bytes are those of no image
abbrev pub SpellsNone : List ℕ → Type 0
SpellsNone bytes = (i : Image) → IsSpelled i bytes → ⊥

-- why bytes are refused
abbrev pub AreRefused : Status → List ℕ → Type 0
AreRefused status.NotImage bytes = SpellsNone bytes
AreRefused status.Memory bytes = Unit {0}
AreRefused _ bytes = ⊥

-- this image stands under the name, in either version
pub record ImageUnder (name : List ℕ) (names : Option Names) (i : Image) : Type 0 where
  pub bytes : List ℕ
  pub is_in_vault : IsUnderName name names bytes
  pub spelled : IsSpelled i bytes

-- ---- what is put and written

-- the image in the newest version
abbrev pub upgraded_files : List ℕ → Image → List File
upgraded_files save i = image_file save (image_bytes i) ∷ []

abbrev pub upgraded_text : List ℕ
upgraded_text = codes "upgraded" ++ 10 ∷ []

-- this was put and written of the image under the name
pub record Upgraded (ended : Status) (name save : List ℕ)
    (names_old names_new : Option Names) (taken_old taken_new : Option (List ℕ)) : Type 0 where
  pub i : Image
  pub read : ImageUnder name names_old i
  pub put : HasPut ended (upgraded_files save i) names_old names_new
  pub written : HasWritten ended upgraded_text taken_old taken_new

-- what was put has the verdict of what was read, with every hash and every list of digests
pub record PutsTheSame (name save : List ℕ) (names_old names_new : Option Names) : Type 0 where
  pub i : Image
  pub read : ImageUnder name names_old i
  pub put : TellsHeld names_old names_new (image_name save) (image_bytes i)
  pub same : (h : List ℕ → List ℕ) (digests : List HeldDigest)
      → verdict_of h digests (image_bytes i) ≡ verdict_of h digests read.bytes

-- by the status, an image was upgraded, or no name has changed and the sink wasn't called; a fault of the vault and
-- want of memory may come before and behind
abbrev pub UpgradedOrIdle : Status → Type 0 → Type 0 → Type 0
UpgradedOrIdle status.Done upgraded idle = upgraded
UpgradedOrIdle status.SinkFault upgraded idle = upgraded
UpgradedOrIdle status.VaultFault upgraded idle = upgraded ⊎ idle
UpgradedOrIdle status.Memory upgraded idle = upgraded ⊎ idle
UpgradedOrIdle _ upgraded idle = idle

-- ---- why a status comes

-- why no image is read of what stands under a name
abbrev pub LacksImage : Status → List ℕ → Option Names → Type 0 → Type 0
LacksImage status.Limit name names vault = LacksName status.Limit 1 image_limit names name
LacksImage (status.Missing which) name names vault = LacksName (status.Missing which) 1 image_limit names name
LacksImage status.NotImage name names vault =
    (bytes : List ℕ) × IsUnderName name names bytes × SpellsNone bytes
LacksImage status.VaultFault name names vault = vault
LacksImage status.Memory name names vault = Unit {0}
LacksImage _ name names vault = ⊥

-- an image stands under the name, in either version
abbrev pub HasImage : List ℕ → Option Names → Type 0
HasImage name names = (i : Image) × ImageUnder name names i

-- Why a status comes. The causes exclude one another but for those of faults and want of memory, so each
-- comes exactly where its cause stands, unless a fault or want of memory comes before it.
abbrev pub UpgradeCause : Status → List ℕ → Option Names → Type 0 → Type 0 → Type 0
UpgradeCause status.Done name names vault sink = HasImage name names
UpgradeCause status.SinkFault name names vault sink = sink
UpgradeCause ended name names vault sink = LacksImage ended name names vault
