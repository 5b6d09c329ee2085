-- What `receipt` and `join` read, put, say and answer.
use Rattle.std.specs.Prelude.{◌≡◌, ◌⊎◌, ℕ, List, [], ◌∷◌, ◌++◌, codes, Option, Some, Ok}
use Rattle.std.specs.Fmt.{decimal}
use Rattle.base_io.specs.Store.{Names}
use Rattle.sql_types.specs.declared.digest.HeldDigest.{HeldDigest}
use Rattle.sql_types.specs.declared.entry.BlockRecord.{BlockRecord}
use Rattle.sql_types.specs.declared.entry.TxEntry.{TxEntry}
use Rattle.sql_types.specs.declared.image.Image.{Image}
use Rattle.format_digest.specs.Reading.{IsRead}
use Rattle.format_image.specs.ImageBytes.{IsImage, IsSpellingOf}
use Rattle.spec_verify.specs.declared.place.Verdict.{Verdict}
use Rattle.spec_verify.specs.declared.place.Verdict.TheVariants.{Yes}
use Rattle.spec_verify.specs.Bytes.{verdict_of}
use Rattle.audit_any_receipt.specs.Continues.{first_block}
use Rattle.audit_any_receipt.specs.declared.any.AnyReceipt.{AnyReceipt}
use Rattle.audit_any_receipt.specs.declared.any.AnyReceipt.TheVariants as kinds
use Rattle.audit_any_receipt.specs.declared.make.Wanted.{Wanted}
use Rattle.audit_any_receipt.specs.Among.{last_block}
use Rattle.audit_any_receipt.specs.Kinds.{any_bytes}
use Rattle.audit_any_receipt.specs.Wanted.{HasNoneUnder, IsReceiptUnder}
use Rattle.cli_audit.specs.declared.files.File.{File}
use Rattle.cli_audit.specs.declared.receipt.Shown.{Shown}
use Rattle.cli_audit.specs.declared.receipt.Shown.TheVariants.{Refused, Made}
use Rattle.cli_audit.specs.declared.status.Status.{Status}
use Rattle.cli_audit.specs.declared.status.Status.TheVariants as status
use Rattle.cli_audit.specs.Answer.{HasPut, HasWritten}
use Rattle.cli_audit.specs.Evidence.{StandUnder}
use Rattle.cli_audit.specs.Files.{TellsHeld}
use Rattle.cli_audit.specs.Names.{image_limit}
use Rattle.cli_audit.specs.Verify.{AreRefused, IsJudged, IsVerdictOn, LacksVerdict, HasSaid}

-- ---- what is shown

-- the bytes are those of an image that is accepted with the digests of the file, of which there are these
pub record IsAcceptedImage (h : List ℕ → List ℕ) (bytes file : List ℕ) : Type 0 where
  pub held : List HeldDigest
  pub read : IsRead file (Ok held)
  pub i : Image
  pub is : IsImage i × IsSpellingOf bytes i
  pub accepted : verdict_of h held bytes ≡ Yes

-- why the image gives none
abbrev pub LacksUnder : Status → Image → List HeldDigest → Wanted → Type 0
LacksUnder status.NoEntry i held w = HasNoneUnder i held w
LacksUnder status.Memory i held w = Unit {0}
LacksUnder _ i held w = ⊥

-- the receipt that the bytes give under the digests of the file
pub record IsReceiptOn (h : List ℕ → List ℕ) (w : Wanted) (bytes file : List ℕ) (r : AnyReceipt) : Type 0 where
  pub image : IsAcceptedImage h bytes file
  pub under : IsReceiptUnder h image.i image.held w r

-- they give none
pub record LacksEntry (h : List ℕ → List ℕ) (w : Wanted) (bytes file : List ℕ) : Type 0 where
  pub image : IsAcceptedImage h bytes file
  pub none : HasNoneUnder image.i image.held w

-- the verdict, which isn't Yes, or the receipt
abbrev pub IsShownOn : (List ℕ → List ℕ) → Wanted → List ℕ → List ℕ → Shown → Type 0
IsShownOn h w bytes file (Refused verdict) =
    (verdict ≡ Yes → ⊥) × IsVerdictOn h bytes file verdict
IsShownOn h w bytes file (Made r) = IsReceiptOn h w bytes file r

-- why neither is found
abbrev pub LacksShown : Status → (List ℕ → List ℕ) → Wanted → List ℕ → List ℕ → Type 0
LacksShown (status.Digests index) h w bytes file = AreRefused (status.Digests index) file
LacksShown status.NoEntry h w bytes file = LacksEntry h w bytes file
LacksShown status.Memory h w bytes file = Unit {0}
LacksShown _ h w bytes file = ⊥

-- ---- of what stands under the names

-- the verdict on what stands under the names, which isn't Yes, or the receipt
abbrev pub IsShown : (List ℕ → List ℕ) → List ℕ → List ℕ → Wanted → Option Names → Shown → Type 0
IsShown h image digests w names shown =
    StandUnder image_limit image digests names (λ bytes file. IsShownOn h w bytes file shown)

-- why neither is found
abbrev pub LacksReceipt : Status → (List ℕ → List ℕ) → List ℕ → List ℕ → Wanted → Option Names → Type 0 → Type 0
LacksReceipt status.NoEntry h image digests w names vault =
    StandUnder image_limit image digests names (LacksEntry h w)
LacksReceipt ended h image digests w names vault = LacksVerdict ended image digests names vault

-- a receipt is had of what stands under the names
pub record HasReceipt (h : List ℕ → List ℕ) (image digests : List ℕ) (w : Wanted) (names : Option Names) : Type 0 where
  pub r : AnyReceipt
  pub on : StandUnder image_limit image digests names (λ bytes file. IsReceiptOn h w bytes file r)

-- Why a status comes. The causes exclude one another but for those of faults and want of memory, so each comes
-- exactly where its cause stands, unless a fault or want of memory comes before it.
abbrev pub ReceiptCause : Status → (List ℕ → List ℕ) → List ℕ → List ℕ → Wanted → Option Names
    → Type 0 → Type 0 → Type 0
ReceiptCause status.Done h image digests w names vault sink = HasReceipt h image digests w names
ReceiptCause status.No h image digests w names vault sink =
    (verdict : Verdict) × (verdict ≡ Yes → ⊥) × IsJudged h image digests names verdict
ReceiptCause status.SinkFault h image digests w names vault sink = sink
ReceiptCause ended h image digests w names vault sink = LacksReceipt ended h image digests w names vault

-- ---- what is put and written

-- NAME.receipt has the receipt, and NAME.chain a chain
abbrev pub ending_of : AnyReceipt → List ℕ
ending_of (kinds.Entry r) = codes ".receipt"
ending_of (kinds.Table r) = codes ".receipt"
ending_of (kinds.Event r) = codes ".receipt"
ending_of (kinds.Chain c) = codes ".chain"

abbrev pub receipt_name : List ℕ → AnyReceipt → List ℕ
receipt_name save r = save ++ ending_of r

abbrev pub receipt_file : List ℕ → AnyReceipt → File
receipt_file save r = record { name = receipt_name save r; bytes = any_bytes r }

-- the line of the entry's block and of its place there
abbrev pub entry_text : TxEntry → List ℕ
entry_text e = codes "receipt " ++ decimal e.block ++ codes " " ++ decimal e.ordinal ++ 10 ∷ []

-- the line of the first block of a chain and of its last one
abbrev pub joined_text : ℕ → ℕ → List ℕ
joined_text from to = codes "joined " ++ decimal from ++ codes " " ++ decimal to ++ 10 ∷ []

abbrev pub chain_text : List BlockRecord → List ℕ
chain_text records = joined_text (first_block records) (last_block records)

abbrev pub receipt_text : AnyReceipt → List ℕ
receipt_text (kinds.Entry r) = entry_text r.entry
receipt_text (kinds.Table r) = entry_text r.receipt.entry
receipt_text (kinds.Event r) = entry_text r.receipt.entry
receipt_text (kinds.Chain c) = chain_text c.records

-- this was put and written of the receipt
pub record Receipted (ended : Status) (h : List ℕ → List ℕ) (image digests : List ℕ) (w : Wanted) (save : List ℕ)
    (names_old names_new : Option Names) (taken_old taken_new : Option (List ℕ)) : Type 0 where
  pub has : HasReceipt h image digests w names_old
  pub put : HasPut ended (receipt_file save has.r ∷ []) names_old names_new
  pub written : HasWritten ended (receipt_text has.r) taken_old taken_new

-- by the status where a verdict that isn't Yes was to be said: it was, or the sink failed, or memory ran out before
abbrev pub EndsRefusing : Status → Verdict → Type 0 → Option (List ℕ) → Option (List ℕ) → Type 0 → Type 0
EndsRefusing status.No verdict sink old new idle = HasSaid status.No verdict old new
EndsRefusing status.SinkFault verdict sink old new idle = sink × HasSaid status.SinkFault verdict old new
EndsRefusing status.Memory verdict sink old new idle = idle
EndsRefusing _ verdict sink old new idle = ⊥

-- the image isn't accepted: the verdict was said, and nothing was put
pub record SaysNo (ended : Status) (h : List ℕ → List ℕ) (image digests : List ℕ)
    (names_old names_new : Option Names) (taken_old taken_new : Option (List ℕ)) : Type 0 where
  pub verdict : Verdict
  pub not_accepted : verdict ≡ Yes → ⊥
  pub judged : IsJudged h image digests names_old verdict
  pub said : HasSaid ended verdict taken_old taken_new
  pub same : names_new ≡ names_old

-- by the status: the receipt was put and its line written, or the verdict was said, or no name has changed and the
-- sink wasn't called
abbrev pub ReceiptedOrIdle : Status → Type 0 → Type 0 → Type 0 → Type 0
ReceiptedOrIdle status.Done receipted said idle = receipted
ReceiptedOrIdle status.No receipted said idle = said
ReceiptedOrIdle status.SinkFault receipted said idle = receipted ⊎ said
ReceiptedOrIdle status.VaultFault receipted said idle = receipted ⊎ idle
ReceiptedOrIdle status.Memory receipted said idle = receipted ⊎ idle
ReceiptedOrIdle _ receipted said idle = idle

-- the file that was put has the bytes of the receipt, which is accepted with the digest of the greatest block; a
-- chain with all digests
pub record PutsReceipt (h : List ℕ → List ℕ) (image digests : List ℕ) (w : Wanted) (save : List ℕ)
    (names_old names_new : Option Names) : Type 0 where
  pub has : HasReceipt h image digests w names_old
  pub put : TellsHeld names_old names_new (receipt_name save has.r) (any_bytes has.r)
