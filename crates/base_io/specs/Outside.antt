-- What the calls of the outside do, where the outside tells it.
use Rattle.std.specs.Prelude.{◌≡◌, ◌≤◌, ◌<◌, ℕ, Option, Some, None, Result, Ok, Err, List, [], ◌++◌, length, take, Vec}
use Rattle.std.specs.declared.alloc.Global.{Global}
use Rattle.base_io.specs.declared.vault.VaultErr.{VaultErr}
use Rattle.base_io.specs.declared.vault.VaultErr.TheVariants.{Memory, Missing, TooLong, Failed}
use Rattle.base_io.specs.Count.{Rises}
use Rattle.base_io.specs.Store.{NameContent, Absent, Open, Bytes, Names, SameBut}

-- n first bytes of what was left stand in the buffer, and none come only at the end
pub record Reads (left rest buffer : List ℕ) (n : ℕ) : Type 0 where
  pub moved : left ≡ take n buffer ++ rest
  pub at_end : n ≡ 0 → left ≡ []

-- the same of a source that may not tell what is left; one that tells goes on telling
abbrev pub TellsRead : Option (List ℕ) → Option (List ℕ) → List ℕ → ℕ → Type 0
TellsRead None after buffer n = Unit {0}
TellsRead (Some left) None buffer n = ⊥
TellsRead (Some left) (Some rest) buffer n = Reads left rest buffer n

-- the sink took these bytes behind the others, where it tells what it took
abbrev pub TellsTaken : Option (List ℕ) → Option (List ℕ) → List ℕ → Type 0
TellsTaken None after bytes = Unit {0}
TellsTaken (Some taken) after bytes = after ≡ Some (taken ++ bytes)

-- what `get` answers for what stands under the name
abbrev pub Gets : NameContent → ℕ → Result (Vec ℕ Global) VaultErr → Type 0
Gets held limit (Err Memory) = Unit {0}
Gets held limit (Err Failed) = Unit {0}
Gets Absent limit (Ok v) = ⊥
Gets Absent limit (Err Missing) = Unit {0}
Gets Absent limit (Err TooLong) = ⊥
Gets Open limit (Ok v) = length v.items ≤ limit
Gets Open limit (Err Missing) = ⊥
Gets Open limit (Err TooLong) = ⊥
Gets (Bytes bytes) limit (Ok v) = (v.items ≡ bytes) × (length bytes ≤ limit)
Gets (Bytes bytes) limit (Err Missing) = ⊥
Gets (Bytes bytes) limit (Err TooLong) = limit < length bytes

-- the same of a vault that may not tell what it has
abbrev pub TellsGet : Option Names → List ℕ → ℕ → Result (Vec ℕ Global) VaultErr → Type 0
TellsGet None name limit result = Unit {0}
TellsGet (Some names) name limit result = Gets (names name) limit result

-- what a `put` of these bytes leaves under its name, by its answer
abbrev pub Leaves : Result (Unit {0}) VaultErr → NameContent → List ℕ → NameContent → Type 0
Leaves (Ok u) old bytes new = new ≡ Bytes bytes
Leaves (Err Memory) old bytes new = new ≡ old
Leaves (Err Failed) old bytes new = new ≡ Open
Leaves (Err Missing) old bytes new = ⊥
Leaves (Err TooLong) old bytes new = ⊥

-- a `put` changes what stands under its name, and no other name
pub record Puts (result : Result (Unit {0}) VaultErr) (old new : Names) (name bytes : List ℕ) : Type 0 where
  pub here : Leaves result (old name) bytes (new name)
  pub elsewhere : SameBut old new name

-- the same of a vault that may not tell what it has; one that tells goes on telling
abbrev pub TellsPut : Option Names → Option Names → Result (Unit {0}) VaultErr → List ℕ → List ℕ → Type 0
TellsPut None after result name bytes = Unit {0}
TellsPut (Some old) None result name bytes = ⊥
TellsPut (Some old) (Some new) result name bytes = Puts result old new name bytes

-- a call counts a fault where it answers `Failed`, and with no other answer
abbrev pub CountsFault : {T : Type 0} → Result T VaultErr → ℕ → ℕ → Type 0
CountsFault (Err Failed) before now = Rises before now
CountsFault _ before now = now ≡ before

-- whether a call gave something, or the error that it answered
abbrev pub outcome : {T : Type 0} → Result T VaultErr → Result (Unit {0}) VaultErr
outcome (Ok v) = Ok tt
outcome (Err e) = Err e
