-- What stands in a vault under the names that a command is given.
use Rattle.std.specs.Prelude.{⊤, ◌≡◌, ◌<◌, ◌≤◌, ℕ, List, length, Option, IfSome, Result, Ok, Err, Vec}
use Rattle.std.specs.declared.alloc.Global.{Global}
use Rattle.base_io.specs.declared.vault.VaultErr.{VaultErr}
use Rattle.base_io.specs.declared.vault.VaultErr.TheVariants as refused
use Rattle.base_io.specs.Store.{NameContent, Absent, Open, Bytes, Names}
use Rattle.cli_audit.specs.declared.status.Status.{Status}
use Rattle.cli_audit.specs.declared.status.Status.TheVariants.{Limit, VaultFault, Missing, Memory}

-- the most bytes that an image may have, 256 MiB, and digests, 32 MiB
abbrev pub image_limit : ℕ
image_limit = 268435456

abbrev pub digests_limit : ℕ
digests_limit = 33554432

-- these bytes, no more than the limit, stand under a name; or it is open, and any may be given
abbrev pub IsInVault : NameContent → ℕ → List ℕ → Type 0
IsInVault Absent limit bytes = ⊥
IsInVault Open limit bytes = length bytes ≤ limit
IsInVault (Bytes held) limit bytes = (bytes ≡ held) × (length held ≤ limit)

-- more bytes than the limit stand under a name
abbrev pub IsTooLong : NameContent → ℕ → Type 0
IsTooLong (Bytes held) limit = limit < length held
IsTooLong _ limit = ⊥

-- why nothing is read of the name with this number; a vault that tells what it has tells it
abbrev pub LacksName : Status → ℕ → ℕ → Option Names → List ℕ → Type 0
LacksName Limit which limit names name = IfSome names (λ n. IsTooLong (n name) limit)
LacksName (Missing number) which limit names name = (number ≡ which) × IfSome names (λ n. n name ≡ Absent)
LacksName VaultFault which limit names name = Unit {0}
LacksName Memory which limit names name = Unit {0}
LacksName _ which limit names name = ⊥

-- what the vault has answered then
abbrev pub name_answer : Result (Vec ℕ Global) Status → Result ⊤ VaultErr
name_answer (Ok bytes) = Ok tt
name_answer (Err Limit) = Err refused.TooLong
name_answer (Err (Missing which)) = Err refused.Missing
name_answer (Err VaultFault) = Err refused.Failed
name_answer (Err _) = Err refused.Memory
