-- A text that is printed: help, or the version.
use Rattle.std.specs.Prelude.{ℕ, List, Option}
use Rattle.base_io.specs.Outside.{TellsTaken}
use Rattle.cli_audit.specs.declared.status.Status.{Status}
use Rattle.cli_audit.specs.declared.status.Status.TheVariants.{Done, SinkFault, Memory}
use Rattle.cli_audit.specs.Transfer.{TellsPart}

-- why a status comes where a text is made and written: it is made by means of memory, and so are the words read
abbrev pub TellCause : Status → Type 0 → Type 0
TellCause Done sink = Unit {0}
TellCause SinkFault sink = sink
TellCause Memory sink = Unit {0}
TellCause _ sink = ⊥

-- what the sink took of the text
abbrev pub HasTold : Status → List ℕ → Option (List ℕ) → Option (List ℕ) → Type 0
HasTold Done text old new = TellsTaken old new text
HasTold SinkFault text old new = TellsPart old new text
HasTold _ text old new = ⊥
