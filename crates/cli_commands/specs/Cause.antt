-- Why the top call ends with a status, by the command that the words say.
use Rattle.std.specs.Prelude.{◌≡◌, ◌⊎◌, ℕ, List, Option, Some, None}
use Rattle.base_io.specs.Store.{Names}
use Rattle.cli_words.specs.Commands.{Command, Step, Run, Verify, Extract, Replay, Upgrade, Gen, Receipt, Join, Check, AsOf, Help, Version}
use Rattle.cli_audit.specs.declared.status.Status.{Status}
use Rattle.cli_audit.specs.declared.status.Status.TheVariants.{Words, Memory}
use Rattle.cli_commands.specs.Answer.{InputCause}
use Rattle.cli_audit.specs.AsOf.{AsOfCause}
use Rattle.cli_audit.specs.Check.{CheckCause}
use Rattle.cli_audit.specs.Extract.{ExtractCause}
use Rattle.cli_commands.specs.GoesOn.{CauseBehind}
use Rattle.cli_commands.specs.Input.{line_form, section_form}
use Rattle.cli_audit.specs.Receipt.{ReceiptCause}
use Rattle.cli_audit.specs.Replay.{ReplayCause}
use Rattle.cli_audit.specs.Tell.{TellCause}
use Rattle.cli_audit.specs.Upgrade.{UpgradeCause}
use Rattle.cli_audit.specs.Verified.{VerifyCause}
use Rattle.cli_commands.specs.Words.{wanted_of}
use Rattle.cli_audit.specs.Wanted.TheVariants as wanted

-- Each command has its causes, by what the input and the vault tell and by whose faults rose in the call.
-- Words comes exactly where the words say none, unless want of memory comes first: the words are read by
-- means of memory.
abbrev pub HasCause : Status → (List ℕ → List ℕ) → Option Command → Option (List ℕ) → Option Names
    → Type 0 → Type 0 → Type 0 → Type 0
HasCause status h None input names source vault sink = (status ≡ Words) ⊎ (status ≡ Memory)
HasCause status h (Some (Step save None how)) input names source vault sink =
    InputCause line_form status input source vault sink
HasCause status h (Some (Step save (Some journal) how)) input names source vault sink =
    CauseBehind line_form status journal names input source vault sink
HasCause status h (Some (Run save None how)) input names source vault sink =
    InputCause section_form status input source vault sink
HasCause status h (Some (Run save (Some journal) how)) input names source vault sink =
    CauseBehind section_form status journal names input source vault sink
HasCause status h (Some (Verify image digests workers covers)) input names source vault sink =
    VerifyCause status h image digests names vault sink
HasCause status h (Some (Replay journal save)) input names source vault sink =
    ReplayCause status journal names vault sink
HasCause status h (Some (Upgrade image save)) input names source vault sink =
    UpgradeCause status image names vault sink
HasCause status h (Some (Extract honest suspect digests)) input names source vault sink =
    ExtractCause status h honest suspect digests names vault sink
HasCause status h (Some (Gen count)) input names source vault sink = TellCause status sink
HasCause status h (Some (Receipt image digests tx part save)) input names source vault sink =
    ReceiptCause status h image digests (wanted_of tx part) names vault sink
HasCause status h (Some (Join image digests save)) input names source vault sink =
    ReceiptCause status h image digests wanted.Chain names vault sink
HasCause status h (Some (Check receipt digests)) input names source vault sink =
    CheckCause status h receipt digests names vault sink
HasCause status h (Some (AsOf image n digests)) input names source vault sink =
    AsOfCause status h image n digests input names source vault sink
HasCause status h (Some (Help which)) input names source vault sink = TellCause status sink
HasCause status h (Some Version) input names source vault sink = TellCause status sink
