-- What has been answered by the status of a call that runs an input.
use Rattle.std.proofs.Common.{ℕ, List, inr, Option, Result, Ok, Vec}
use Rattle.std.specs.declared.alloc.Global.{Global}
use Rattle.base_io.specs.declared.failed.Failed.{Failed}
use Rattle.base_io.specs.History.{Since, EndsAt}
use Rattle.cli_audit.specs.declared.status.Status.{Status}
use Rattle.cli_audit.specs.declared.status.Status.TheVariants.{Done, No, Words, Limit, SourceFault, SinkFault, VaultFault, Missing, Digests, Journal, Form, Memory, NotImage, NoEntry, Receipt, TooFar, NoDigestHeld}
use Rattle.cli_commands.specs.Answer.{InputCause}
use Rattle.cli_audit.specs.Calls.{Moved, ReadsOf, AreReads}
use Rattle.cli_commands.specs.Input.{InputForm}
use Rattle.cli_audit.proofs.CallLemmas.{since_weaker}

module _ {A : Type 0} (form : InputForm A) where
  -- an input that was read to its end, by the status of what follows
  read_to_end : (status : Status) (input : Option (List ℕ)) (vault sink : Type 0) → InputCause form status input ⊥ vault sink
      → (answers : List (Result ℕ Failed)) → EndsAt Moved (Ok 0) answers → AreReads status answers
  read_to_end Done input vault sink cause answers end = end
  read_to_end Words input vault sink cause answers end = absurd cause
  read_to_end No input vault sink cause answers end = absurd cause
  read_to_end (Missing which) input vault sink cause answers end = absurd cause
  read_to_end (Digests index) input vault sink cause answers end = absurd cause
  read_to_end NoEntry input vault sink cause answers end = absurd cause
  read_to_end NotImage input vault sink cause answers end = absurd cause
  read_to_end Receipt input vault sink cause answers end = absurd cause
  read_to_end (TooFar entries) input vault sink cause answers end = absurd cause
  read_to_end NoDigestHeld input vault sink cause answers end = absurd cause
  read_to_end (Journal at) input vault sink cause answers end = absurd cause
  read_to_end Limit input vault sink cause answers end = inr end
  read_to_end SourceFault input vault sink cause answers end = absurd cause
  read_to_end SinkFault input vault sink cause answers end = end
  read_to_end VaultFault input vault sink cause answers end = end
  read_to_end (Form line) input vault sink cause answers end = end
  read_to_end Memory input vault sink cause answers end = inr end

  pub reads_whole : (status : Status) (input : Option (List ℕ)) (vault sink : Type 0) (v : Vec ℕ Global) (old now : List (Result ℕ Failed) → Type 0)
      → InputCause form status input ⊥ vault sink → Since old now (ReadsOf (Ok v)) → Since old now (AreReads status)
  reads_whole status input vault sink v old now cause reads =
      since_weaker old now (ReadsOf (Ok v)) (AreReads status) (read_to_end status input vault sink cause) reads
