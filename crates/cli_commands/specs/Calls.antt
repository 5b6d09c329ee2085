-- What the vault has answered in a call of the server, by the command.
use Rattle.std.specs.Prelude.{⊤, ◌≡◌, List, [], Option, Some, None, Result}
use Rattle.base_io.specs.declared.vault.VaultErr.{VaultErr}
use Rattle.cli_words.specs.Commands.{Command, Step, Run, Verify, Extract, Replay, Upgrade, Gen, Receipt, Join, Check, AsOf, Help, Version}
use Rattle.cli_audit.specs.declared.status.Status.{Status}
use Rattle.cli_audit.specs.Calls.{AreGets, ArePuts, AreGetsAndPuts, AreGetsInputAndPuts, AreGetsBefore, name_count}

-- what the vault answered, by the command
abbrev pub AreCalls : Option Command → Status → List (Result ⊤ VaultErr) → Type 0
AreCalls None status answers = answers ≡ []
AreCalls (Some (Step save None how)) status answers = ArePuts status answers
AreCalls (Some (Step save (Some journal) how)) status answers = AreGetsInputAndPuts 1 status answers
AreCalls (Some (Run save None how)) status answers = ArePuts status answers
AreCalls (Some (Run save (Some journal) how)) status answers = AreGetsInputAndPuts 1 status answers
AreCalls (Some (Verify image digests workers covers)) status answers = AreGets (name_count digests) status answers
AreCalls (Some (Replay journal save)) status answers = AreGetsAndPuts 1 status answers
AreCalls (Some (Upgrade image save)) status answers = AreGetsAndPuts 1 status answers
AreCalls (Some (Extract honest suspect digests)) status answers = AreGets 3 status answers
AreCalls (Some (Gen count)) status answers = answers ≡ []
AreCalls (Some (Receipt image digests tx part save)) status answers = AreGetsAndPuts 2 status answers
AreCalls (Some (Join image digests save)) status answers = AreGetsAndPuts 2 status answers
AreCalls (Some (Check receipt digests)) status answers = AreGets 2 status answers
AreCalls (Some (AsOf image n digests)) status answers = AreGetsBefore (name_count digests) status answers
AreCalls (Some (Help which)) status answers = answers ≡ []
AreCalls (Some Version) status answers = answers ≡ []
