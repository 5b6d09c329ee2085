-- What `check` reads, says and answers.
use Rattle.std.specs.Prelude.{◌≡◌, ℕ, true, false, List, [], ◌∷◌, ◌++◌, codes, Option, Ok}
use Rattle.std.specs.Fmt.{decimal}
use Rattle.base_io.specs.Outside.{TellsTaken}
use Rattle.base_io.specs.Store.{Names}
use Rattle.sql_types.specs.declared.digest.HeldDigest.{HeldDigest}
use Rattle.format_digest.specs.Reading.{IsRead}
use Rattle.audit_any_receipt.specs.declared.any.AnyReceipt.{AnyReceipt}
use Rattle.audit_any_receipt.specs.declared.among.Answer.{Answer}
use Rattle.audit_any_receipt.specs.declared.among.Answer.TheVariants as answers
use Rattle.audit_any_receipt.specs.Among.{IsAcceptedAmong, IsAnswer, is_yes}
use Rattle.audit_any_receipt.specs.Kinds.{Spells, SpellsNone}
use Rattle.audit_any_receipt.specs.Shows.{EachImageShows}
use Rattle.cli_audit.specs.declared.status.Status.{Status}
use Rattle.cli_audit.specs.declared.status.Status.TheVariants as status
use Rattle.cli_audit.specs.Evidence.{LacksEither, StandUnder}
use Rattle.cli_audit.specs.Transfer.{TellsPart}
use Rattle.cli_audit.specs.Verify.{AreRefused}

-- ---- what is judged

-- the most bytes that a receipt may have: 16 MiB
abbrev pub receipt_limit : ℕ
receipt_limit = 16777216

-- why bytes are refused as those of none
abbrev pub LacksReceiptForm : Status → List ℕ → Type 0
LacksReceiptForm status.Receipt bytes = SpellsNone bytes
LacksReceiptForm status.Memory bytes = Unit {0}
LacksReceiptForm _ bytes = ⊥

-- the file has some digests, and this is answered of the receipt with them
abbrev pub IsSoWith : (List ℕ → List ℕ) → AnyReceipt → List ℕ → Answer → Type 0
IsSoWith h r file answer = (held : List HeldDigest) × IsRead file (Ok held) × IsAnswer h r held answer

-- the bytes are those of a receipt or chain, the file has some digests, and this is answered of the two
pub record IsCheckedOn (h : List ℕ → List ℕ) (bytes file : List ℕ) (answer : Answer) : Type 0 where
  pub r : AnyReceipt
  pub spelled : Spells bytes r
  pub held : List HeldDigest
  pub read : IsRead file (Ok held)
  pub is : IsAnswer h r held answer

-- the bytes are those of a receipt, and the file is refused
pub record HasNoDigests (ended : Status) (bytes file : List ℕ) : Type 0 where
  pub r : AnyReceipt
  pub spelled : Spells bytes r
  pub refused : AreRefused ended file

-- why nothing is said of the two: whether the bytes are a receipt's is looked at first
abbrev pub LacksCheck : Status → List ℕ → List ℕ → Type 0
LacksCheck status.Receipt bytes file = SpellsNone bytes
LacksCheck (status.Digests index) bytes file = HasNoDigests (status.Digests index) bytes file
LacksCheck status.Memory bytes file = Unit {0}
LacksCheck _ bytes file = ⊥

-- ---- of what stands under the names

-- what is answered of the receipt under the name, with the digests under the other
abbrev pub IsChecked : (List ℕ → List ℕ) → List ℕ → List ℕ → Option Names → Answer → Type 0
IsChecked h receipt digests names answer =
    StandUnder receipt_limit receipt digests names (λ bytes file. IsCheckedOn h bytes file answer)

-- why nothing is said of what stands under the names
abbrev pub LacksAnswer : Status → List ℕ → List ℕ → Option Names → Type 0 → Type 0
LacksAnswer status.Limit receipt digests names vault =
    LacksEither status.Limit receipt_limit receipt digests names
LacksAnswer (status.Missing which) receipt digests names vault =
    LacksEither (status.Missing which) receipt_limit receipt digests names
LacksAnswer status.Receipt receipt digests names vault =
    StandUnder receipt_limit receipt digests names (LacksCheck status.Receipt)
LacksAnswer (status.Digests index) receipt digests names vault =
    StandUnder receipt_limit receipt digests names (LacksCheck (status.Digests index))
LacksAnswer status.VaultFault receipt digests names vault = vault
LacksAnswer status.Memory receipt digests names vault = Unit {0}
LacksAnswer _ receipt digests names vault = ⊥

-- Why a status comes. The causes exclude one another but for those of faults and want of memory, so each comes
-- exactly where its cause stands, unless a fault or want of memory comes before it.
abbrev pub CheckCause : Status → (List ℕ → List ℕ) → List ℕ → List ℕ → Option Names
    → Type 0 → Type 0 → Type 0
CheckCause status.Done h receipt digests names vault sink =
    (answer : Answer) × (is_yes answer ≡ true) × IsChecked h receipt digests names answer
CheckCause status.No h receipt digests names vault sink =
    (answer : Answer) × (is_yes answer ≡ false) × IsChecked h receipt digests names answer
CheckCause status.SinkFault h receipt digests names vault sink = sink
CheckCause ended h receipt digests names vault sink = LacksAnswer ended receipt digests names vault

-- ---- what is said

-- the line of an answer
abbrev pub answer_text : Answer → List ℕ
answer_text answers.Yes = codes "Yes" ++ 10 ∷ []
answer_text (answers.Joined from to) = codes "Yes " ++ decimal from ++ codes " " ++ decimal to ++ 10 ∷ []
answer_text (answers.NoJoin block) = codes "No join of block " ++ decimal block ++ 10 ∷ []
answer_text (answers.NoDigest block) = codes "No digest of block " ++ decimal block ++ 10 ∷ []
answer_text answers.NoReceipt = codes "No receipt" ++ 10 ∷ []

-- what the sink took of it, and how the call ends then
abbrev pub HasSaidSo : Status → Answer → Option (List ℕ) → Option (List ℕ) → Type 0
HasSaidSo status.Done answer old new = (is_yes answer ≡ true) × TellsTaken old new (answer_text answer)
HasSaidSo status.No answer old new = (is_yes answer ≡ false) × TellsTaken old new (answer_text answer)
HasSaidSo status.SinkFault answer old new = TellsPart old new (answer_text answer)
HasSaidSo _ answer old new = ⊥

-- what is answered of the receipt under the name was said
pub record Checks (ended : Status) (h : List ℕ → List ℕ) (receipt digests : List ℕ) (names : Option Names)
    (taken_old taken_new : Option (List ℕ)) : Type 0 where
  pub answer : Answer
  pub is_checked : IsChecked h receipt digests names answer
  pub said : HasSaidSo ended answer taken_old taken_new

-- ---- what Yes shows

-- the bytes are those of a receipt or chain, and it is accepted with the digests of the file
pub record IsAcceptedOn (h : List ℕ → List ℕ) (bytes file : List ℕ) : Type 0 where
  pub r : AnyReceipt
  pub spelled : Spells bytes r
  pub held : List HeldDigest
  pub read : IsRead file (Ok held)
  pub is : IsAcceptedAmong h r held

-- the receipt under the name is accepted with a digest under the other, and no image that `verify` accepts with this
-- digest contradicts what it shows, or two different strings of bytes have one hash, of which the first is hashed where
-- the receipt is checked and the second where the image is verified
pub record ShowsClaim (h : List ℕ → List ℕ) (receipt digests : List ℕ) (names : Option Names) : Type 0 where
  pub accepted : StandUnder receipt_limit receipt digests names (IsAcceptedOn h)
  pub each : EachImageShows h accepted.such.r accepted.such.is.d accepted.such.held accepted.such.is.accepted
