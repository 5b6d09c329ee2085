-- The verdict on what stands under the names of an image and of digests, and the line that is said of it.
use Rattle.std.specs.Prelude.{◌≡◌, ◌⊎◌, ℕ, List, [], ◌∷◌, ◌++◌, Option, Some, None, IfSome, Ok, Err}
use Rattle.base_io.specs.Outside.{TellsTaken}
use Rattle.base_io.specs.Store.{Names}
use Rattle.sql_types.specs.declared.digest.HeldDigest.{HeldDigest}
use Rattle.format_digest.specs.declared.digest_err.DigestErr.TheVariants as reading
use Rattle.format_digest.specs.Reading.{IsRead}
use Rattle.spec_verify.specs.declared.place.Verdict.{Verdict}
use Rattle.spec_verify.specs.declared.place.Verdict.TheVariants.{Yes}
use Rattle.spec_verify.specs.Bytes.{verdict_of}
use Rattle.spec_verify.specs.Line.{verdict_line}
use Rattle.cli_audit.specs.declared.status.Status.{Status}
use Rattle.cli_audit.specs.declared.status.Status.TheVariants.{Done, No, Limit, SinkFault, VaultFault, Missing, Digests, Memory, NoDigestHeld}
use Rattle.cli_audit.specs.Names.{IsInVault, LacksName, image_limit, digests_limit}
use Rattle.cli_audit.specs.Transfer.{TellsPart}

-- these bytes stand under the name of the image, and this file under that of the digests
abbrev pub IsEvidence : List ℕ → List ℕ → Names → List ℕ → List ℕ → Type 0
IsEvidence image digests names bytes file =
    IsInVault (names image) image_limit bytes × IsInVault (names digests) digests_limit file

-- why the two names aren't read: the image's is at fault, or else that of the digests
abbrev pub LacksEvidence : Status → List ℕ → List ℕ → Option Names → Type 0
LacksEvidence status image digests names =
    LacksName status 1 image_limit names image
    ⊎ ((bytes : List ℕ) × IfSome names (λ n. IsInVault (n image) image_limit bytes)
    × LacksName status 2 digests_limit names digests)

-- why the file of the digests is refused: it can't be read, or its first item that is no digest has this
-- index
abbrev pub AreRefused : Status → List ℕ → Type 0
AreRefused (Digests None) file = IsRead file (Err reading.Unreadable)
AreRefused (Digests (Some index)) file = IsRead file (Err (reading.Bad index))
AreRefused Memory file = Unit {0}
AreRefused _ file = ⊥

-- the file has some digests, and this is the verdict on the bytes with them
abbrev pub IsVerdictOn : (List ℕ → List ℕ) → List ℕ → List ℕ → Verdict → Type 0
IsVerdictOn h bytes file verdict =
    (held : List HeldDigest) × IsRead file (Ok held) × (verdict ≡ verdict_of h held bytes)

-- this is the verdict on what stands under the two names
pub record IsJudged (h : List ℕ → List ℕ) (image digests : List ℕ) (names : Option Names)
    (verdict : Verdict) : Type 0 where
  pub bytes : List ℕ
  pub file : List ℕ
  pub are_in_vault : IfSome names (λ n. IsEvidence image digests n bytes file)
  pub on : IsVerdictOn h bytes file verdict

-- the file that stands under the name of the digests is refused
pub record HoldsNone (status : Status) (image digests : List ℕ) (names : Option Names) : Type 0 where
  pub bytes : List ℕ
  pub file : List ℕ
  pub are_in_vault : IfSome names (λ n. IsEvidence image digests n bytes file)
  pub refused : AreRefused status file

-- why there is no verdict
abbrev pub LacksVerdict : Status → List ℕ → List ℕ → Option Names → Type 0 → Type 0
LacksVerdict Limit image digests names vault = LacksEvidence Limit image digests names
LacksVerdict (Missing which) image digests names vault = LacksEvidence (Missing which) image digests names
LacksVerdict (Digests index) image digests names vault = HoldsNone (Digests index) image digests names
LacksVerdict VaultFault image digests names vault = vault
LacksVerdict Memory image digests names vault = Unit {0}
LacksVerdict _ image digests names vault = ⊥

-- the line of a verdict
abbrev pub verdict_text : Verdict → List ℕ
verdict_text verdict = verdict_line verdict ++ 10 ∷ []

-- what the sink took of it, and how the call ends then
abbrev pub HasSaid : Status → Verdict → Option (List ℕ) → Option (List ℕ) → Type 0
HasSaid Done verdict old new = (verdict ≡ Yes) × TellsTaken old new (verdict_text verdict)
HasSaid No verdict old new = (verdict ≡ Yes → ⊥) × TellsTaken old new (verdict_text verdict)
HasSaid SinkFault verdict old new = TellsPart old new (verdict_text verdict)
HasSaid _ verdict old new = ⊥

-- by the status, a line was begun, or the sink wasn't called
abbrev pub SaidOrIdle : Status → Type 0 → Type 0 → Type 0
SaidOrIdle Done said idle = said
SaidOrIdle No said idle = said
SaidOrIdle NoDigestHeld said idle = said
SaidOrIdle SinkFault said idle = said
SaidOrIdle _ said idle = idle
