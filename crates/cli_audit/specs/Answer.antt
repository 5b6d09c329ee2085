-- What has been read, put and written by the status with which a call ends.
use Rattle.std.specs.Prelude.{◌≡◌, ◌<◌, ◌≤◌, ◌+◌, ℕ, List, [], length, drop, Option, Some}
use Rattle.base_io.specs.declared.vault.VaultErr.{VaultErr}
use Rattle.base_io.specs.declared.vault.VaultErr.TheVariants as refused
use Rattle.base_io.specs.Store.{Names}
use Rattle.base_io.specs.Outside.{TellsTaken}
use Rattle.cli_audit.specs.declared.status.Status.{Status}
use Rattle.cli_audit.specs.declared.status.Status.TheVariants.{Done, Limit, SourceFault, SinkFault, VaultFault, Memory}
use Rattle.cli_audit.specs.declared.files.File.{File}
use Rattle.cli_audit.specs.Files.{FirstArePut, StopsOpen}
use Rattle.cli_audit.specs.Transfer.{input_limit, TellsPart}

-- what is left of an input that is told, where it is read: at most one byte past the limit was taken; so at
-- Limit all was, or the limit and one byte of more. All of it was taken where it was run, or a line of it
-- lacks its form.
abbrev pub HasRead : Status → List ℕ → Option (List ℕ) → Type 0
HasRead Limit input rest = rest ≡ Some (drop (input_limit + 1) input)
HasRead Memory input rest = (n : ℕ) × (n ≤ input_limit + 1) × (rest ≡ Some (drop n input))
HasRead SourceFault input rest = (n : ℕ) × (n ≤ input_limit) × (rest ≡ Some (drop n input))
HasRead _ input rest = rest ≡ Some []

-- what the vault has: all files where the text was begun, the first of them where it failed or memory ran out
abbrev pub HasPut : Status → List File → Option Names → Option Names → Type 0
HasPut Done files old new = FirstArePut files (length files) old new
HasPut SinkFault files old new = FirstArePut files (length files) old new
HasPut VaultFault files old new = StopsOpen files old new
HasPut Memory files old new = (k : ℕ) × (k < length files) × FirstArePut files k old new
HasPut _ files old new = ⊥

-- what the sink took: the whole text, a first part of it at a fault of the sink, and nothing before
abbrev pub HasWritten : Status → List ℕ → Option (List ℕ) → Option (List ℕ) → Type 0
HasWritten Done text old new = TellsTaken old new text
HasWritten SinkFault text old new = TellsPart old new text
HasWritten VaultFault text old new = new ≡ old
HasWritten Memory text old new = new ≡ old
HasWritten _ text old new = ⊥

-- these have failed no more than before: all but the one whose fault is answered
abbrev pub Unfailed : Status → Type 0 → Type 0 → Type 0 → Type 0
Unfailed SourceFault source vault sink = vault × sink
Unfailed VaultFault source vault sink = source × sink
Unfailed SinkFault source vault sink = source × vault
Unfailed _ source vault sink = source × vault × sink

-- how putting files and writing a text ends, by whose faults rose
abbrev pub EndsBy : Status → Type 0 → Type 0 → Type 0
EndsBy Done vault sink = Unit {0}
EndsBy Memory vault sink = Unit {0}
EndsBy VaultFault vault sink = vault
EndsBy SinkFault vault sink = sink
EndsBy _ vault sink = ⊥

-- the status where the vault refused a file
abbrev pub vault_status : VaultErr → Status
vault_status refused.Failed = VaultFault
vault_status _ = Memory
