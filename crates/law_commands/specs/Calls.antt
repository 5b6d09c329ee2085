-- What a call of `verify` or `extract` says of what stands in the vault.
use Rattle.std.specs.Prelude.{ℕ, ◌≡◌, ◌⊎◌, ◌++◌, List, [], ◌∷◌, Option, Some, codes, false}
use Rattle.base_io.specs.Count.{Rises}
use Rattle.base_io.specs.Outside.{TellsTaken}
use Rattle.base_io.specs.Store.{Names}
use Rattle.sql_types.specs.declared.digest.HeldDigest.{HeldDigest}
use Rattle.spec_verify.specs.declared.place.Verdict.TheVariants.{Yes}
use Rattle.audit_extract.specs.declared.found.ImageComparison.{ImageComparison}
use Rattle.audit_extract.specs.declared.found.ImageComparison.TheVariants.{Same, Collision}
use Rattle.cli_commands.specs.Coverage.{Coverage}
use Rattle.cli_commands.specs.Status.{Status}
use Rattle.cli_commands.specs.Status.TheVariants.{Done, No, SinkFault, VaultFault, Memory, NoDigestHeld}
use Rattle.cli_commands.specs.Extract.{AreCompared, ExtractCause, Extracts, hex_line}
use Rattle.cli_commands.specs.Transfer.{TellsPart}
use Rattle.cli_commands.specs.Verified.{SaysVerdict, VerifyCause}
use Rattle.cli_commands.specs.Verify.{SaidOrIdle, verdict_text}

-- the faults of a vault rose in a call; those of a sink, or its stalls; and a sink was left as it was
pub record Faults : Type 1 where
  pub vault : Type 0
  pub sink : Type 0
  pub idle : Type 0

-- by how often the vault failed before a call and behind it, the sink failed, and it stalled
abbrev pub faults_in : (vault vault_then : ℕ) (sink sink_then : ℕ) (stalls stalls_then : ℕ) → Type 0 → Faults
faults_in vault vault_then sink sink_then stalls stalls_then idle = record {
  vault = Rises vault vault_then;
  sink = Rises sink sink_then ⊎ Rises stalls stalls_then;
  idle = idle;
}

-- a call of `verify` with these two names ended so, by its contract
pub record EndsVerify (h : List ℕ → List ℕ) (image digests : List ℕ) (names : Option Names) (f : Faults)
    (status : Status) (old new : Option (List ℕ)) : Type 0 where
  pub cause : VerifyCause status h image (Some digests) names f.vault f.sink
  pub covers : Option Coverage
  pub says : SaidOrIdle status (SaysVerdict status h image (Some digests) false covers names old new) f.idle

-- a call of `extract` with these three names ended so, by its contract
pub record EndsExtract (h : List ℕ → List ℕ) (honest suspect digests : List ℕ) (names : Option Names)
    (f : Faults) (status : Status) (old new : Option (List ℕ)) : Type 0 where
  pub cause : ExtractCause status h honest suspect digests names f.vault f.sink
  pub covers : Option Coverage
  pub says : SaidOrIdle status (Extracts status h honest suspect digests covers names old new) f.idle

-- the line `Yes` was written, unless a fault or want of memory came first; without a digest the call ended with
-- `NoDigestHeld`, and else with `Done`
abbrev pub SaysYes : List HeldDigest → Status → Faults → Option (List ℕ) → Option (List ℕ) → Type 0
SaysYes digests Done f old new = (digests ≡ [] → ⊥) × TellsTaken old new (verdict_text Yes)
SaysYes digests NoDigestHeld f old new = (digests ≡ []) × TellsTaken old new (verdict_text Yes)
SaysYes digests SinkFault f old new = f.sink × TellsPart old new (verdict_text Yes)
SaysYes digests VaultFault f old new = f.vault × f.idle
SaysYes digests Memory f old new = f.idle
SaysYes digests _ f old new = ⊥

-- the line `Same`, or `Collision` and two strings of bytes in hexadecimal digits
abbrev pub comparison_text : ImageComparison → List ℕ
comparison_text Same = codes "Same" ++ 10 ∷ []
comparison_text (Collision c) = codes "Collision" ++ 10 ∷ hex_line c.first ++ hex_line c.second

-- what the sink took of it, by how the call ended
abbrev pub TellsComparison : Status → ImageComparison → Option (List ℕ) → Option (List ℕ) → Type 0
TellsComparison Done found old new = (found ≡ Same) × TellsTaken old new (comparison_text found)
TellsComparison NoDigestHeld found old new = (found ≡ Same) × TellsTaken old new (comparison_text found)
TellsComparison No found old new = (found ≡ Same → ⊥) × TellsTaken old new (comparison_text found)
TellsComparison SinkFault found old new = TellsPart old new (comparison_text found)
TellsComparison _ found old new = ⊥

-- `Same` was written, and the images that the bytes are have the same covered transactions and row versions; or
-- `Collision` and two different strings of bytes with one hash
pub record SaysWhatIsFound (h : List ℕ → List ℕ) (digests : List HeldDigest) (honest suspect : List ℕ)
    (status : Status) (old new : Option (List ℕ)) : Type 0 where
  pub found : ImageComparison
  pub compared : AreCompared h digests honest suspect found
  pub told : TellsComparison status found old new

-- so it is, unless a fault or want of memory came first; `NoDigestHeld` comes for `Done` without a digest
abbrev pub SaysSameOrCollision : (List ℕ → List ℕ) → List HeldDigest → List ℕ → List ℕ → Status → Faults
    → Option (List ℕ) → Option (List ℕ) → Type 0
SaysSameOrCollision h digests honest suspect Done f old new =
    (digests ≡ [] → ⊥) × SaysWhatIsFound h digests honest suspect Done old new
SaysSameOrCollision h digests honest suspect NoDigestHeld f old new =
    (digests ≡ []) × SaysWhatIsFound h digests honest suspect NoDigestHeld old new
SaysSameOrCollision h digests honest suspect No f old new = SaysWhatIsFound h digests honest suspect No old new
SaysSameOrCollision h digests honest suspect SinkFault f old new =
    f.sink × SaysWhatIsFound h digests honest suspect SinkFault old new
SaysSameOrCollision h digests honest suspect VaultFault f old new = f.vault × f.idle
SaysSameOrCollision h digests honest suspect Memory f old new = f.idle
SaysSameOrCollision h digests honest suspect _ f old new = ⊥
