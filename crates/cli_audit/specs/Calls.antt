-- What the source, the vault and the sink have answered in a call of the server. The first answer that ends
-- their calls is the last one: nothing is tried again, and nothing is read behind the end of an input.
use Rattle.std.specs.Prelude.{⊤, ◌≡◌, ◌<◌, ◌≤◌, ◌⊎◌, ◌++◌, ℕ, List, [], length, Option, Some, None, Result, Ok, Err, Vec, All}
use Rattle.std.specs.declared.alloc.Global.{Global}
use Rattle.base_io.specs.declared.failed.Failed.{Failed}
use Rattle.base_io.specs.declared.vault.VaultErr.{VaultErr}
use Rattle.base_io.specs.declared.vault.VaultErr.TheVariants as refused
use Rattle.base_io.specs.History.{EndsAt}
use Rattle.cli_audit.specs.declared.status.Status.{Status}
use Rattle.cli_audit.specs.declared.status.Status.TheVariants.{Done, No, Words, Limit, SourceFault, SinkFault, VaultFault, Missing, Memory, NoDigestHeld}
use Rattle.cli_audit.specs.declared.transfer.ReadErr.{ReadErr}
use Rattle.cli_audit.specs.declared.transfer.ReadErr.TheVariants as reading

-- a read that gave bytes, or a write that took some
abbrev pub Moved : Result ℕ Failed → Type 0
Moved (Ok n) = 0 < n
Moved (Err e) = ⊥

-- a put that kept its file
abbrev pub KeptFile : Result ⊤ VaultErr → Type 0
KeptFile answer = answer ≡ Ok tt

-- a read or a write that failed
abbrev pub failed : Result ℕ Failed
failed = Err (record {})

-- the reads up to the end of an input, a fault, or more than what is wanted
abbrev pub ReadsOf : Result (Vec ℕ Global) ReadErr → List (Result ℕ Failed) → Type 0
ReadsOf (Ok v) answers = EndsAt Moved (Ok 0) answers
ReadsOf (Err reading.Failed) answers = EndsAt Moved failed answers
ReadsOf (Err _) answers = All Moved answers

-- what the source answered
abbrev pub AreReads : Status → List (Result ℕ Failed) → Type 0
AreReads Words answers = answers ≡ []
AreReads SourceFault answers = EndsAt Moved failed answers
AreReads Limit answers = All Moved answers ⊎ EndsAt Moved (Ok 0) answers
AreReads Memory answers = All Moved answers ⊎ EndsAt Moved (Ok 0) answers
AreReads _ answers = EndsAt Moved (Ok 0) answers

-- what the vault answered where files are put
abbrev pub ArePuts : Status → List (Result ⊤ VaultErr) → Type 0
ArePuts Done answers = All KeptFile answers
ArePuts SinkFault answers = All KeptFile answers
ArePuts VaultFault answers = EndsAt KeptFile (Err refused.Failed) answers
ArePuts Memory answers = (answers ≡ []) ⊎ EndsAt KeptFile (Err refused.Memory) answers
ArePuts _ answers = answers ≡ []

-- a get that gave a file
abbrev pub GaveFile : Result ⊤ VaultErr → Type 0
GaveFile answer = answer ≡ Ok tt

-- so many gets each gave something
abbrev pub Gave : ℕ → List (Result ⊤ VaultErr) → Type 0
Gave k answers = All GaveFile answers × (length answers ≡ k)

-- what the vault answered where k names are read: all of them, or up to the first that gave nothing
abbrev pub AreGets : ℕ → Status → List (Result ⊤ VaultErr) → Type 0
AreGets k Limit answers = EndsAt GaveFile (Err refused.TooLong) answers × (length answers ≤ k)
AreGets k (Missing which) answers = EndsAt GaveFile (Err refused.Missing) answers × (length answers ≡ which)
AreGets k VaultFault answers = EndsAt GaveFile (Err refused.Failed) answers × (length answers ≤ k)
AreGets k Memory answers = (All GaveFile answers ⊎ EndsAt GaveFile (Err refused.Memory) answers)
    × (length answers ≤ k)
AreGets k _ answers = Gave k answers

-- behind so many gets that each gave something, the puts were answered so
abbrev pub Behind : ℕ → (List (Result ⊤ VaultErr) → Type 0) → List (Result ⊤ VaultErr) → Type 0
Behind k are answers =
    (gets : List (Result ⊤ VaultErr)) × (puts : List (Result ⊤ VaultErr)) × (answers ≡ gets ++ puts)
    × Gave k gets × are puts

-- what the vault answered where k names are read, and then files are put
abbrev pub AreGetsAndPuts : ℕ → Status → List (Result ⊤ VaultErr) → Type 0
AreGetsAndPuts k Done answers = Behind k (ArePuts Done) answers
AreGetsAndPuts k SinkFault answers = Behind k (ArePuts SinkFault) answers
AreGetsAndPuts k VaultFault answers = AreGets k VaultFault answers ⊎ Behind k (ArePuts VaultFault) answers
AreGetsAndPuts k Memory answers = AreGets k Memory answers ⊎ Behind k (ArePuts Memory) answers
AreGetsAndPuts k status answers = AreGets k status answers

-- what the vault answered where k names are read, and then the input
abbrev pub AreGetsBefore : ℕ → Status → List (Result ⊤ VaultErr) → Type 0
AreGetsBefore k Limit answers = AreGets k Limit answers ⊎ Gave k answers
AreGetsBefore k status answers = AreGets k status answers

-- what the vault answered where k names are read, then the input, and then files are put
abbrev pub AreGetsInputAndPuts : ℕ → Status → List (Result ⊤ VaultErr) → Type 0
AreGetsInputAndPuts k Limit answers = AreGetsBefore k Limit answers
AreGetsInputAndPuts k status answers = AreGetsAndPuts k status answers

-- how many names `asof` is given, of an image and perhaps of digests
abbrev pub name_count : Option (List ℕ) → ℕ
name_count None = 1
name_count (Some digests) = 2

-- the writes up to a fault, or to one that took nothing
abbrev pub StopsWriting : List (Result ℕ Failed) → Type 0
StopsWriting answers = EndsAt Moved failed answers ⊎ EndsAt Moved (Ok 0) answers

-- what the sink answered
abbrev pub AreWrites : Status → List (Result ℕ Failed) → Type 0
AreWrites Done answers = All Moved answers
AreWrites No answers = All Moved answers
AreWrites NoDigestHeld answers = All Moved answers
AreWrites SinkFault answers = StopsWriting answers
AreWrites _ answers = answers ≡ []
