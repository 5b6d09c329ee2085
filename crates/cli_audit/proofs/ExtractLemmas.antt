-- What is read and judged for `extract`.
use Rattle.std.proofs.Common.{◌≡◌, ◌∙◌, ℕ, List, refl, subst, inr, Option, Some, None, IfSome, Ok}
use Rattle.base_io.specs.Store.{Names}
use Rattle.sql_types.specs.declared.digest.HeldDigest.{HeldDigest}
use Rattle.sql_types.specs.declared.image.Image.{Image}
use Rattle.spec_verify.specs.declared.place.Verdict.TheVariants.{Yes}
use Rattle.spec_verify.specs.Bytes.{verdict_of}
use Rattle.spec_verify.proofs.Judged.{of_spelling}
use Rattle.cli_audit.specs.declared.status.Status.{Status}
use Rattle.audit_extract.specs.declared.found.ImageComparison.{ImageComparison}
use Rattle.audit_answers.specs.declared.coverage.Coverage.{Coverage}
use Rattle.audit_answers.specs.Covers.{coverage_of}
use Rattle.audit_answers.specs.Told.{IsTried}
use Rattle.cli_audit.specs.declared.extract.Finding.{Finding}
use Rattle.cli_audit.specs.declared.extract.Finding.TheVariants.{Honest, Suspect, Compared}
use Rattle.cli_audit.specs.Extract.{AreCompared, IsFoundWith, LacksExhibits, finding_status, finding_text}
use Rattle.cli_audit.specs.Names.{IsInVault, LacksName, image_limit, digests_limit}

-- the verdict on bytes whose image is accepted
pub accepts : (h : List ℕ → List ℕ) (held : List HeldDigest) (bytes : List ℕ) (i : Image) → IsTried h held bytes (Ok i) → verdict_of h held bytes ≡ Yes
accepts h held bytes i t = of_spelling h held bytes i t.0 t.1 ∙ t.2

both_are_present : (P Q : Names → Type 0) (names : Option Names) → IfSome names P → IfSome names Q → IfSome names (λ n. P n × Q n)
both_are_present P Q None p q = tt
both_are_present P Q (Some n) p q = (p, q)

-- the third name lacks what it is to have, behind two that were read
pub third_lacks : (status : Status) (before between now : Option Names) (honest suspect digests a b : List ℕ) → between ≡ before → now ≡ between
    → IfSome before (λ n. IsInVault (n honest) image_limit a) → IfSome between (λ n. IsInVault (n suspect) image_limit b) → LacksName status 3 digests_limit now digests
    → LacksExhibits status honest suspect digests before
third_lacks status before between now honest suspect digests a b first second present_a present_b lacks =
    let there : IfSome before (λ n. IsInVault (n suspect) image_limit b) = subst (λ (names : Option Names). IfSome names (λ n. IsInVault (n suspect) image_limit b)) first present_b in
    let none : LacksName status 3 digests_limit before digests = subst (λ (names : Option Names). LacksName status 3 digests_limit names digests) (second ∙ first) lacks in
    inr (inr (a, b, both_are_present (λ n. IsInVault (n honest) image_limit a) (λ n. IsInVault (n suspect) image_limit b) before present_a there, none))

-- ---- what two accepted images are to each other

abbrev pub compared_text : ImageComparison → Coverage → List ℕ
compared_text outcome coverage = finding_text (Compared outcome coverage)

abbrev pub compared_status : ImageComparison → Coverage → Status
compared_status outcome coverage = finding_status (Compared outcome coverage)

-- of two images that are accepted nothing else is found
pub compared_of_accepted : (h : List ℕ → List ℕ) (held : List HeldDigest) (a b : List ℕ) → verdict_of h held a ≡ Yes → verdict_of h held b ≡ Yes
    → (finding : Finding) → IsFoundWith h held a b finding
    → (outcome : ImageComparison) × (coverage : Coverage) × (both : AreCompared h held a b outcome) × (coverage ≡ coverage_of both.suspect held)
    × (finding_text finding ≡ compared_text outcome coverage) × (finding_status finding ≡ compared_status outcome coverage)
compared_of_accepted h held a b yes_a yes_b (Honest verdict) found = absurd (found.0 (found.1 ∙ yes_a))
compared_of_accepted h held a b yes_a yes_b (Suspect verdict) found = absurd (found.1.0 (found.1.1 ∙ yes_b))
compared_of_accepted h held a b yes_a yes_b (Compared outcome coverage) found = (outcome, coverage, found.0, found.1, refl, refl)
