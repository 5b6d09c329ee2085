-- Why nothing is judged for `verify`.
use Rattle.std.proofs.Common.{ℕ, List, Option, Some, None}
use Rattle.cli_audit.specs.declared.status.Status.{Status}
use Rattle.cli_audit.specs.declared.status.Status.TheVariants.{Done, No, Words, Limit, SourceFault, SinkFault, VaultFault, Missing, Digests, Journal, Form, Memory, NotImage, NoEntry, Receipt, TooFar, NoDigestHeld}
use Rattle.cli_audit.specs.Subject.{FileIsRefused}
use Rattle.cli_audit.specs.Verified.{LacksJudgement}
use Rattle.cli_audit.specs.Verify.{AreRefused}

file_lacks : (file : List ℕ) (status : Status) → AreRefused status file → LacksJudgement status (Some file)
file_lacks file (Digests index) refused = refused
file_lacks file Memory refused = tt
file_lacks file Done refused = absurd refused
file_lacks file No refused = absurd refused
file_lacks file Words refused = absurd refused
file_lacks file Limit refused = absurd refused
file_lacks file SourceFault refused = absurd refused
file_lacks file SinkFault refused = absurd refused
file_lacks file VaultFault refused = absurd refused
file_lacks file (Missing which) refused = absurd refused
file_lacks file (Journal at) refused = absurd refused
file_lacks file (Form line) refused = absurd refused
file_lacks file NotImage refused = absurd refused
file_lacks file NoEntry refused = absurd refused
file_lacks file Receipt refused = absurd refused
file_lacks file (TooFar entries) refused = absurd refused
file_lacks file NoDigestHeld refused = absurd refused

pub judgement_lacks : (file : Option (List ℕ)) (status : Status) → FileIsRefused status file → LacksJudgement status file
judgement_lacks None status refused = absurd refused
judgement_lacks (Some file) status refused = file_lacks file status refused
