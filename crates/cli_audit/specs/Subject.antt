-- An image that is judged, with the digests of a file where the name of one is given.
use Rattle.std.specs.Prelude.{◌≡◌, ℕ, List, [], Option, Some, None, IfSome, Ok}
use Rattle.base_io.specs.Store.{Names}
use Rattle.sql_types.specs.declared.digest.HeldDigest.{HeldDigest}
use Rattle.format_digest.specs.Reading.{IsRead}
use Rattle.audit_answers.specs.declared.coverage.Coverage.{Coverage}
use Rattle.cli_audit.specs.declared.status.Status.{Status}
use Rattle.cli_audit.specs.declared.status.Status.TheVariants.{Done, NoDigestHeld}
use Rattle.cli_audit.specs.Names.{IsInVault, LacksName, image_limit}
use Rattle.cli_audit.specs.Verify.{AreRefused, IsEvidence, LacksEvidence}

-- ---- what stands under the names

-- these bytes stand under the name of the image, and where a name of digests is given this file under that
abbrev pub AreSubject : List ℕ → Option (List ℕ) → Names → List ℕ → Option (List ℕ) → Type 0
AreSubject image None names bytes None = IsInVault (names image) image_limit bytes
AreSubject image (Some digests) names bytes (Some file) = IsEvidence image digests names bytes file
AreSubject image digests names bytes file = ⊥

-- such bytes and such a file stand there
abbrev pub HasSubject : List ℕ → Option (List ℕ) → Option Names → Type 0
HasSubject image digests names =
    (bytes : List ℕ) × (file : Option (List ℕ)) × IfSome names (λ n. AreSubject image digests n bytes file)

-- why the names aren't read
abbrev pub LacksSubject : Status → List ℕ → Option (List ℕ) → Option Names → Type 0
LacksSubject ended image None names = LacksName ended 1 image_limit names image
LacksSubject ended image (Some digests) names = LacksEvidence ended image digests names

-- ---- the digests of the file

-- the file has these digests; without a file there are none
abbrev pub AreHeld : Option (List ℕ) → List HeldDigest → Type 0
AreHeld None held = held ≡ []
AreHeld (Some file) held = IsRead file (Ok held)

-- the file is refused; without one nothing is
abbrev pub FileIsRefused : Status → Option (List ℕ) → Type 0
FileIsRefused ended None = ⊥
FileIsRefused ended (Some file) = AreRefused ended file

-- ---- how a call ends that did its work

-- by the greatest block of a digest: without a digest it is `NoDigestHeld`
abbrev pub done_by : Option ℕ → Status
done_by None = NoDigestHeld
done_by (Some block) = Done

-- where no name of digests is given none is asked for
abbrev pub done_with : Option (List ℕ) → Coverage → Status
done_with None coverage = Done
done_with (Some digests) coverage = done_by coverage.newest
