-- What `extract` reads, says and answers.
use Rattle.std.specs.Prelude.{◌≡◌, ◌⊎◌, ℕ, List, [], ◌∷◌, ◌++◌, codes, Option, Some, None, IfSome, Ok}
use Rattle.hex.specs.Hex.{encode_lower}
use Rattle.base_io.specs.Outside.{TellsTaken}
use Rattle.base_io.specs.Store.{Names}
use Rattle.sql_types.specs.declared.digest.HeldDigest.{HeldDigest}
use Rattle.sql_types.specs.declared.image.Image.{Image}
use Rattle.format_digest.specs.Reading.{IsRead}
use Rattle.format_image.specs.ImageBytes.{IsImage, IsSpellingOf}
use Rattle.spec_verify.specs.declared.place.Verdict.TheVariants.{Yes}
use Rattle.spec_verify.specs.Bytes.{verdict_of}
use Rattle.spec_verify.specs.Line.{verdict_line}
use Rattle.audit_extract.specs.declared.found.ImageComparison.{ImageComparison}
use Rattle.audit_extract.specs.declared.found.Collision.{Collision as TwoStrings}
use Rattle.audit_extract.specs.declared.found.ImageComparison.TheVariants.{Same, Collision}
use Rattle.audit_extract.specs.Each.{AgreeOnEach}
use Rattle.audit_extract.specs.Finds.{Finds}
use Rattle.audit_extract.specs.Strings.{AreHashed, OfCollision}
use Rattle.cli_audit.specs.declared.extract.Finding.{Finding}
use Rattle.cli_audit.specs.declared.extract.Finding.TheVariants.{Honest, Suspect, Compared}
use Rattle.cli_audit.specs.declared.status.Status.{Status}
use Rattle.cli_audit.specs.declared.status.Status.TheVariants.{Done, No, Limit, SinkFault, VaultFault, Missing, Digests, Memory, NoDigestHeld}
use Rattle.audit_answers.specs.declared.coverage.Coverage.{Coverage}
use Rattle.audit_answers.specs.Covers.{coverage_of}
use Rattle.cli_audit.specs.Subject.{done_by}
use Rattle.cli_audit.specs.Names.{IsInVault, LacksName, image_limit, digests_limit}
use Rattle.cli_audit.specs.Transfer.{TellsPart}
use Rattle.cli_audit.specs.Verify.{AreRefused}

-- ---- what stands under the names

-- these bytes stand under the names of the two images, and this file under that of the digests
abbrev pub AreExhibits : List ℕ → List ℕ → List ℕ → Names → List ℕ → List ℕ → List ℕ → Type 0
AreExhibits honest suspect digests names a b file =
    IsInVault (names honest) image_limit a
    × (IsInVault (names suspect) image_limit b × IsInVault (names digests) digests_limit file)

-- why the three names aren't read: the first that is at fault
abbrev pub LacksExhibits : Status → List ℕ → List ℕ → List ℕ → Option Names → Type 0
LacksExhibits status honest suspect digests names =
    LacksName status 1 image_limit names honest
    ⊎ (((a : List ℕ) × IfSome names (λ n. IsInVault (n honest) image_limit a)
    × LacksName status 2 image_limit names suspect)
    ⊎ ((a : List ℕ) × (b : List ℕ)
    × IfSome names (λ n. IsInVault (n honest) image_limit a × IsInVault (n suspect) image_limit b)
    × LacksName status 3 digests_limit names digests))

-- ---- what is found

-- both are accepted: of the images that they are, this is what the extractor answers with all the digests
pub record AreCompared (h : List ℕ → List ℕ) (held : List HeldDigest) (a b : List ℕ)
    (outcome : ImageComparison) : Type 0 where
  pub honest : Image
  pub suspect : Image
  pub is_honest : IsImage honest × IsSpellingOf a honest
  pub is_suspect : IsImage suspect × IsSpellingOf b suspect
  pub honest_accepted : verdict_of h held a ≡ Yes
  pub suspect_accepted : verdict_of h held b ≡ Yes
  pub found : Finds h (AgreeOnEach honest suspect held) outcome
  -- two strings that it found were hashed at one place of both
  pub strings : OfCollision (AreHashed h honest suspect) outcome

-- the verdict on the first that isn't accepted, or what the two are to each other
abbrev pub IsFoundWith : (List ℕ → List ℕ) → List HeldDigest → List ℕ → List ℕ → Finding → Type 0
IsFoundWith h held a b (Honest verdict) = (verdict ≡ Yes → ⊥) × (verdict ≡ verdict_of h held a)
IsFoundWith h held a b (Suspect verdict) =
    (verdict_of h held a ≡ Yes) × ((verdict ≡ Yes → ⊥) × (verdict ≡ verdict_of h held b))
IsFoundWith h held a b (Compared outcome coverage) =
    (both : AreCompared h held a b outcome) × (coverage ≡ coverage_of both.suspect held)

-- the file has some digests, and this is found of the bytes with them
abbrev pub IsFoundOn : (List ℕ → List ℕ) → List ℕ → List ℕ → List ℕ → Finding → Type 0
IsFoundOn h a b file finding =
    (held : List HeldDigest) × IsRead file (Ok held) × IsFoundWith h held a b finding

-- this is found of what stands under the three names
pub record IsFound (h : List ℕ → List ℕ) (honest suspect digests : List ℕ) (names : Option Names)
    (finding : Finding) : Type 0 where
  pub a : List ℕ
  pub b : List ℕ
  pub file : List ℕ
  pub are_in_vault : IfSome names (λ n. AreExhibits honest suspect digests n a b file)
  pub on : IsFoundOn h a b file finding

-- the file that stands under the name of the digests is refused
pub record HoldsNoDigests (status : Status) (honest suspect digests : List ℕ) (names : Option Names) : Type 0 where
  pub a : List ℕ
  pub b : List ℕ
  pub file : List ℕ
  pub are_in_vault : IfSome names (λ n. AreExhibits honest suspect digests n a b file)
  pub refused : AreRefused status file

-- why nothing is found
abbrev pub LacksFinding : Status → List ℕ → List ℕ → List ℕ → Option Names → Type 0 → Type 0
LacksFinding Limit honest suspect digests names vault = LacksExhibits Limit honest suspect digests names
LacksFinding (Missing which) honest suspect digests names vault =
    LacksExhibits (Missing which) honest suspect digests names
LacksFinding (Digests index) honest suspect digests names vault =
    HoldsNoDigests (Digests index) honest suspect digests names
LacksFinding VaultFault honest suspect digests names vault = vault
LacksFinding Memory honest suspect digests names vault = Unit {0}
LacksFinding _ honest suspect digests names vault = ⊥

-- ---- what is said

-- Done, or NoDigestHeld without a digest, exactly where all that the digests cover is the same
abbrev pub finding_status : Finding → Status
finding_status (Compared Same coverage) = done_by coverage.newest
finding_status _ = No

-- bytes in lower-case hexadecimal digits, on a line
abbrev pub hex_line : List ℕ → List ℕ
hex_line bytes = encode_lower bytes ++ 10 ∷ []

-- two strings of bytes with one hash
abbrev pub collision_text : TwoStrings → List ℕ
collision_text c = codes "Collision" ++ 10 ∷ hex_line c.first ++ hex_line c.second

-- the lines that are written
abbrev pub finding_text : Finding → List ℕ
finding_text (Honest verdict) = codes "honest: " ++ verdict_line verdict ++ 10 ∷ []
finding_text (Suspect verdict) = codes "suspect: " ++ verdict_line verdict ++ 10 ∷ []
finding_text (Compared Same coverage) = codes "Same" ++ 10 ∷ []
finding_text (Compared (Collision c) coverage) = collision_text c

-- something is found of what stands under the names, and a call ends so where it is said
abbrev pub IsFoundAs : Status → (List ℕ → List ℕ) → List ℕ → List ℕ → List ℕ → Option Names → Type 0
IsFoundAs status h honest suspect digests names =
    (finding : Finding) × (finding_status finding ≡ status) × IsFound h honest suspect digests names finding

-- Why a status comes. The causes exclude one another but for those of faults and want of memory, so each
-- comes exactly where its cause stands, unless a fault or want of memory comes before it.
abbrev pub ExtractCause : Status → (List ℕ → List ℕ) → List ℕ → List ℕ → List ℕ → Option Names
    → Type 0 → Type 0 → Type 0
ExtractCause Done h honest suspect digests names vault sink = IsFoundAs Done h honest suspect digests names
ExtractCause NoDigestHeld h honest suspect digests names vault sink =
    IsFoundAs NoDigestHeld h honest suspect digests names
ExtractCause No h honest suspect digests names vault sink = IsFoundAs No h honest suspect digests names
ExtractCause SinkFault h honest suspect digests names vault sink = sink
ExtractCause status h honest suspect digests names vault sink =
    LacksFinding status honest suspect digests names vault

-- what the sink took of it, and how the call ends then
abbrev pub HasToldOf : Status → Finding → Option (List ℕ) → Option (List ℕ) → Type 0
HasToldOf Done finding old new = (finding_status finding ≡ Done) × TellsTaken old new (finding_text finding)
HasToldOf NoDigestHeld finding old new =
    (finding_status finding ≡ NoDigestHeld) × TellsTaken old new (finding_text finding)
HasToldOf No finding old new = (finding_status finding ≡ No) × TellsTaken old new (finding_text finding)
HasToldOf SinkFault finding old new = TellsPart old new (finding_text finding)
HasToldOf _ finding old new = ⊥

-- what is noted of it: what the digests cover of the suspect image, where it is the same in both
abbrev pub finding_note : Finding → Option Coverage
finding_note (Compared Same coverage) = Some coverage
finding_note finding = None

-- what is found of the images under two names was said, and this was noted of it
pub record Extracts (status : Status) (h : List ℕ → List ℕ) (honest suspect digests : List ℕ)
    (covers : Option Coverage) (names : Option Names) (taken_old taken_new : Option (List ℕ)) : Type 0 where
  pub finding : Finding
  pub is_found : IsFound h honest suspect digests names finding
  pub told : HasToldOf status finding taken_old taken_new
  pub noted : covers ≡ finding_note finding
