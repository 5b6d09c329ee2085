-- The receipt of a transaction: what an accepted image gives, and how a call ends.
use Rattle.std.proofs.Common.{◌≡◌, ◌≤◌, ◌∙◌, ℕ, List, [], ◌∷◌, Bool, true, cond, bytes_eq, Option, Some, None, Ok, ◌⊎◌, refl, sym, ap, subst, inl, inr}
use Rattle.std.proofs.lemmas.Slice.Eq.{bytes_eq-Decides}
use Rattle.base_io.specs.Store.{Bytes, Names}
use Rattle.sql_types.specs.declared.digest.HeldDigest.{HeldDigest}
use Rattle.sql_types.specs.declared.image.Image.{Image}
use Rattle.format_digest.specs.Reading.{IsRead}
use Rattle.spec_verify.specs.declared.place.Verdict.{Verdict}
use Rattle.spec_verify.specs.declared.place.Verdict.TheVariants.{Yes}
use Rattle.audit_any_receipt.specs.declared.any.AnyReceipt.{AnyReceipt}
use Rattle.audit_any_receipt.specs.declared.make.Wanted.{Wanted}
use Rattle.audit_any_receipt.specs.Kinds.{any_bytes}
use Rattle.audit_any_receipt.specs.Wanted.{HasNoneUnder, IsReceiptUnder}
use Rattle.audit_answers.specs.Told.{IsTried}
use Rattle.cli_audit.specs.declared.files.File.{File}
use Rattle.cli_audit.specs.declared.status.Status.{Status}
use Rattle.cli_audit.specs.declared.status.Status.TheVariants.{Done, No, Words, Limit, SourceFault, SinkFault, VaultFault, Missing, Digests, Journal, Form, Memory, NotImage, NoEntry, Receipt, TooFar, NoDigestHeld}
use Rattle.cli_audit.specs.Answer.{HasPut, HasWritten, EndsBy}
use Rattle.cli_audit.specs.Files.{TellsLeft, TellsHeld, FirstArePut, put_held}
use Rattle.cli_audit.specs.Receipt.{LacksUnder, IsReceiptOn, LacksShown, HasReceipt, ReceiptCause, receipt_name, receipt_file, receipt_text, Receipted, EndsRefusing, SaysNo, ReceiptedOrIdle, PutsReceipt}
use Rattle.cli_audit.specs.Verify.{HasSaid, IsJudged}
use Rattle.cli_audit.proofs.ExtractLemmas.{accepts}
use Rattle.cli_audit.proofs.ReplayLemmas.{by_end}

-- ---- what an image gives

-- of bytes, and of a file whose digests lie in two slices
module _ (h : List ℕ → List ℕ) (w : Wanted) (bytes file : List ℕ) (held slice again : List HeldDigest) (i : Image) (read : IsRead file (Ok held)) (is : slice ≡ held) (also : again ≡ held)
    (tried : IsTried h slice bytes (Ok i)) where
  pub shown_on : (r : AnyReceipt) → IsReceiptUnder h i again w r → IsReceiptOn h w bytes file r
  shown_on r under =
      let t = subst (λ (l : List HeldDigest). IsTried h l bytes (Ok i)) is tried in record {
        image = record { held = held; read = read; i = i; is = (t.0, t.1); accepted = accepts h held bytes i t };
        under = subst (λ (l : List HeldDigest). IsReceiptUnder h i l w r) also under;
      }

  pub lacks_on : (status : Status) → LacksUnder status i again w → LacksShown status h w bytes file
  lacks_on NoEntry lacks =
      let t = subst (λ (l : List HeldDigest). IsTried h l bytes (Ok i)) is tried in record {
        image = record { held = held; read = read; i = i; is = (t.0, t.1); accepted = accepts h held bytes i t };
        none = subst (λ (l : List HeldDigest). HasNoneUnder i l w) also lacks;
      }
  lacks_on Memory lacks = tt
  lacks_on NotImage lacks = absurd lacks
  lacks_on Done lacks = absurd lacks
  lacks_on No lacks = absurd lacks
  lacks_on Words lacks = absurd lacks
  lacks_on Limit lacks = absurd lacks
  lacks_on SourceFault lacks = absurd lacks
  lacks_on SinkFault lacks = absurd lacks
  lacks_on VaultFault lacks = absurd lacks
  lacks_on (Missing which) lacks = absurd lacks
  lacks_on (Digests index) lacks = absurd lacks
  lacks_on (Journal at) lacks = absurd lacks
  lacks_on (Form line) lacks = absurd lacks
  lacks_on Receipt lacks = absurd lacks
  lacks_on (TooFar entries) lacks = absurd lacks
  lacks_on NoDigestHeld lacks = absurd lacks

-- ---- the receipt was put

pub one_tells : (file : File) (old new : Option Names) → TellsLeft (put_held file ∷ []) old new → TellsHeld old new file.name file.bytes
one_tells file None new told = tt
one_tells file (Some old) None told = absurd told
one_tells file (Some old) (Some new) told =
    let same : bytes_eq file.name file.name ≡ true = (bytes_eq-Decides file.name file.name).1 refl in
    told file.name ∙ ap (λ x. cond x (Bytes file.bytes) (old file.name)) same

module _ (h : List ℕ → List ℕ) (image digests : List ℕ) (w : Wanted) (save : List ℕ) (before old new : Option Names) (has : HasReceipt h image digests w before) (same : old ≡ before)
    (status : Status) (put : HasPut status (receipt_file save has.r ∷ []) old new) where
  pub receipted_is : (taken now : Option (List ℕ)) → HasWritten status (receipt_text has.r) taken now → Receipted status h image digests w save before new taken now
  receipted_is taken now written = record {
    has = has;
    put = subst (λ (o : Option Names). HasPut status (receipt_file save has.r ∷ []) o new) same put;
    written = written;
  }

  pub puts_receipt : status ≡ Done → PutsReceipt h image digests w save before new
  puts_receipt done =
      let all : FirstArePut (receipt_file save has.r ∷ []) 1 old new = subst (λ (s : Status). HasPut s (receipt_file save has.r ∷ []) old new) done put in record {
        has = has;
        put = subst (λ (o : Option Names). TellsHeld o new (receipt_name save has.r) (any_bytes has.r)) same (one_tells (receipt_file save has.r) old new all);
      }

pub made_by : (status : Status) (vault sink receipted said idle : Type 0) → EndsBy status vault sink → receipted → ReceiptedOrIdle status receipted said idle
made_by status vault sink receipted said idle ends r = by_end (λ s. ReceiptedOrIdle s receipted said idle) vault sink r (λ fault. inl r) (λ fault. inl r) (inl r) status ends

-- ---- a verdict that isn't Yes

module _ (verdict : Verdict) (sink : Type 0) (taken now : Option (List ℕ)) (same : Type 0) where
  by_refusing : (P : Status → Type 0) → (HasSaid No verdict taken now → P No) → (sink → HasSaid SinkFault verdict taken now → P SinkFault) → (same → P Memory)
      → (status : Status) → EndsRefusing status verdict sink taken now same → P status
  by_refusing P said faulty short No ends = said ends
  by_refusing P said faulty short SinkFault ends = faulty ends.0 ends.1
  by_refusing P said faulty short Memory ends = short ends
  by_refusing P said faulty short Done ends = absurd ends
  by_refusing P said faulty short Words ends = absurd ends
  by_refusing P said faulty short Limit ends = absurd ends
  by_refusing P said faulty short SourceFault ends = absurd ends
  by_refusing P said faulty short VaultFault ends = absurd ends
  by_refusing P said faulty short (Missing which) ends = absurd ends
  by_refusing P said faulty short (Digests index) ends = absurd ends
  by_refusing P said faulty short (Journal at) ends = absurd ends
  by_refusing P said faulty short (Form line) ends = absurd ends
  by_refusing P said faulty short NoEntry ends = absurd ends
  by_refusing P said faulty short NotImage ends = absurd ends
  by_refusing P said faulty short Receipt ends = absurd ends
  by_refusing P said faulty short (TooFar entries) ends = absurd ends
  by_refusing P said faulty short NoDigestHeld ends = absurd ends

  module _ (status : Status) (ends : EndsRefusing status verdict sink taken now same)
      (h : List ℕ → List ℕ) (image digests : List ℕ) (names : Option Names) (other : verdict ≡ Yes → ⊥) (judged : IsJudged h image digests names verdict) where
    pub cause_refusing : (w : Wanted) (vault : Type 0) → ReceiptCause status h image digests w names vault sink
    cause_refusing w vault =
        by_refusing (λ s. ReceiptCause s h image digests w names vault sink) (λ said. (verdict, other, judged)) (λ fault said. fault) (λ is. tt) status ends

    pub said_refusing : (receipted : Type 0) (new : Option Names) → new ≡ names
        → ReceiptedOrIdle status receipted (SaysNo status h image digests names new taken now) ((new ≡ names) × same)
    said_refusing receipted new unput =
        by_refusing (λ s. ReceiptedOrIdle s receipted (SaysNo s h image digests names new taken now) ((new ≡ names) × same))
        (λ said. record { verdict = verdict; not_accepted = other; judged = judged; said = said; same = unput })
        (λ fault said. inr (record { verdict = verdict; not_accepted = other; judged = judged; said = said; same = unput }))
        (λ is. inr (unput, is)) status ends
