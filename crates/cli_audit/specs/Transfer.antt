-- Reading a whole input, and writing a whole text, in pieces.
use Rattle.std.specs.Prelude.{◌≡◌, ◌<◌, ◌≤◌, ◌+◌, ℕ, List, [], ◌++◌, length, take, drop, Option, Some, None, Result, Ok, Err, Vec}
use Rattle.std.specs.declared.alloc.Global.{Global}
use Rattle.base_io.specs.Outside.{TellsTaken}
use Rattle.cli_audit.specs.declared.transfer.ReadErr.{ReadErr}
use Rattle.cli_audit.specs.declared.transfer.ReadErr.TheVariants.{Memory, TooMuch, Failed}

-- the most bytes that an input may have: 4 MiB
abbrev pub input_limit : ℕ
input_limit = 4194304

-- an input has more
abbrev pub IsTooMuch : List ℕ → Type 0
IsTooMuch input = input_limit < length input

-- so much of the input came, where the source tells what is left
abbrev pub CameSoFar : Option (List ℕ) → Option (List ℕ) → List ℕ → Type 0
CameSoFar None now came = Unit {0}
CameSoFar (Some input) None came = ⊥
CameSoFar (Some input) (Some rest) came = input ≡ came ++ rest

-- what a reading to the end answers, of an input that is told, and what it leaves of it
abbrev pub IsInputRead : List ℕ → Option (List ℕ) → Result (Vec ℕ Global) ReadErr → Type 0
IsInputRead input rest (Ok v) = (v.items ≡ input) × (length input ≤ input_limit) × (rest ≡ Some [])
-- one byte past the limit is the last that is taken
IsInputRead input rest (Err TooMuch) = IsTooMuch input × (rest ≡ Some (drop (input_limit + 1) input))
IsInputRead input rest (Err Memory) = (n : ℕ) × (n ≤ input_limit + 1) × (rest ≡ Some (drop n input))
IsInputRead input rest (Err Failed) = (n : ℕ) × (n ≤ input_limit) × (rest ≡ Some (drop n input))

-- a first part of a text was written, and not all of it, where the sink tells what it took
abbrev pub TellsPart : Option (List ℕ) → Option (List ℕ) → List ℕ → Type 0
TellsPart old new text = (n : ℕ) × (n < length text) × TellsTaken old new (take n text)
