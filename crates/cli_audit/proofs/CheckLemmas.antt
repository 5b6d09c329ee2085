-- What is judged of a receipt, and what one that is accepted shows.
use Rattle.std.proofs.Common.{◌≡◌, ℕ, true, List, length, Option, Result, Ok, Err, IfOk, IfErr}
use Rattle.base_io.specs.Store.{Names}
use Rattle.sql_types.specs.declared.digest.HeldDigest.{HeldDigest}
use Rattle.audit_any_receipt.specs.declared.any.AnyReceipt.{AnyReceipt}
use Rattle.audit_any_receipt.specs.declared.among.Answer.{Answer}
use Rattle.audit_any_receipt.specs.declared.among.Answer.TheVariants as answers
use Rattle.audit_any_receipt.specs.Among.{IsAcceptedAmong, IsAcceptedBy, IsAnswer, is_yes}
use Rattle.audit_any_receipt.specs.Kinds.{IsAny, Spells}
use Rattle.audit_any_receipt.specs.Shows.{EachImageShows}
use Rattle.cli_audit.specs.declared.status.Status.{Status}
use Rattle.cli_audit.specs.declared.status.Status.TheVariants.{Done, No, Words, Limit, SourceFault, SinkFault, VaultFault, Missing, Digests, Journal, Form, Memory, NotImage, NoEntry, Receipt, TooFar, NoDigestHeld}
use Rattle.cli_audit.specs.Check.{IsSoWith, IsCheckedOn, LacksCheck, IsChecked, ShowsClaim}
use Rattle.cli_audit.specs.Verify.{AreRefused}

-- the receipt of some bytes, and the file of the digests
module _ (bytes file : List ℕ) (r : AnyReceipt) (spelled : Spells bytes r) where
  pub judged_on : (h : List ℕ → List ℕ) (result : Result Answer Status) → IfOk result (IsSoWith h r file) → IfOk result (IsCheckedOn h bytes file)
  judged_on h (Ok answer) is = record { r = r; spelled = spelled; held = is.0; read = is.1; is = is.2 }
  judged_on h (Err status) is = tt

  lacks_digests : (status : Status) → AreRefused status file → LacksCheck status bytes file
  lacks_digests (Digests index) refused = record { r = r; spelled = spelled; refused = refused }
  lacks_digests Memory refused = tt
  lacks_digests Done refused = absurd refused
  lacks_digests No refused = absurd refused
  lacks_digests Words refused = absurd refused
  lacks_digests Limit refused = absurd refused
  lacks_digests SourceFault refused = absurd refused
  lacks_digests SinkFault refused = absurd refused
  lacks_digests VaultFault refused = absurd refused
  lacks_digests (Missing which) refused = absurd refused
  lacks_digests (Journal at) refused = absurd refused
  lacks_digests (Form line) refused = absurd refused
  lacks_digests NotImage refused = absurd refused
  lacks_digests NoEntry refused = absurd refused
  lacks_digests Receipt refused = absurd refused
  lacks_digests (TooFar entries) refused = absurd refused
  lacks_digests NoDigestHeld refused = absurd refused

  pub lacks_check : (result : Result Answer Status) → IfErr result (λ status. AreRefused status file) → IfErr result (λ status. LacksCheck status bytes file)
  lacks_check (Ok answer) refused = tt
  lacks_check (Err status) refused = lacks_digests status refused

-- no image contradicts an accepted receipt
abbrev pub AreNeverContradicted : Type 0
AreNeverContradicted = (h : List ℕ → List ℕ) (r : AnyReceipt) (d : HeldDigest) (held : List HeldDigest)
    → ((bytes : List ℕ) → length (h bytes) ≡ 32) → IsAny r → (x : IsAcceptedBy h r d held) → EachImageShows h r d held x

accepted_of : (h : List ℕ → List ℕ) (r : AnyReceipt) (held : List HeldDigest) (answer : Answer) → is_yes answer ≡ true → IsAnswer h r held answer → IsAcceptedAmong h r held
accepted_of h r held answers.Yes so is = is.1
accepted_of h r held (answers.Joined from to) so is = is.1
accepted_of h r held (answers.NoJoin block) so is = cc
accepted_of h r held (answers.NoDigest block) so is = cc
accepted_of h r held answers.NoReceipt so is = cc

pub shows_claim : AreNeverContradicted → (h : List ℕ → List ℕ) → ((bytes : List ℕ) → length (h bytes) ≡ 32) → (receipt digests : List ℕ) (names : Option Names) (answer : Answer) → is_yes answer ≡ true
    → IsChecked h receipt digests names answer → ShowsClaim h receipt digests names
shows_claim never h sized receipt digests names answer so checked =
    let s = checked.such in
    let is = accepted_of h s.r s.held answer so s.is in
    record {
      accepted = record {
        bytes = checked.bytes;
        file = checked.file;
        are_in_vault = checked.are_in_vault;
        such = record { r = s.r; spelled = s.spelled; held = s.held; read = s.read; is = is };
      };
      each = never h s.r is.d s.held sized s.spelled.0 is.accepted;
    }
