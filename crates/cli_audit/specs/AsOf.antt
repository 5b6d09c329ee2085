-- What `asof` reads, says and answers.
use Rattle.std.specs.Prelude.{◌≡◌, ◌≤◌, ◌⊎◌, ℕ, List, [], length, Option, Some, None, IfSome, string_bytes, Ok, Err, Result}
use Rattle.base_io.specs.declared.failed.Failed.{Failed}
use Rattle.base_io.specs.Outside.{TellsTaken}
use Rattle.base_io.specs.Store.{Names}
use Rattle.sql_types.specs.declared.digest.HeldDigest.{HeldDigest}
use Rattle.format_asof.specs.Texts.{texts_of}
use Rattle.spec_verify.specs.declared.place.Verdict.{Verdict}
use Rattle.spec_verify.specs.declared.place.Verdict.TheVariants.{Yes}
use Rattle.spec_verify.specs.Bytes.{verdict_of}
use Rattle.audit_answers.specs.declared.answering.Answers.{Answers}
use Rattle.audit_answers.specs.declared.answering.Answers.TheVariants.{Refused, Written}
use Rattle.audit_answers.specs.declared.coverage.Coverage.{Coverage}
use Rattle.audit_answers.specs.Told.{AreAnswers, IsTooFar, IsWritten}
use Rattle.cli_audit.specs.declared.status.Status.{Status}
use Rattle.cli_audit.specs.declared.status.Status.TheVariants as status
use Rattle.cli_audit.specs.Answer.{HasRead}
use Rattle.cli_audit.specs.Calls.{AreReads}
use Rattle.cli_audit.specs.Subject.{AreHeld, AreSubject, FileIsRefused, HasSubject, LacksSubject, done_with}
use Rattle.cli_audit.specs.Transfer.{input_limit, IsTooMuch, TellsPart}
use Rattle.cli_audit.specs.Verify.{verdict_text}

-- ---- what is told of bytes, a file and an input

-- the input has texts, and the file has digests, with which the image has such answers
pub record AreToldSo (file : Option (List ℕ)) (input : List ℕ)
    (Such : List HeldDigest → List (List ℕ) → Type 0) : Type 0 where
  pub texts : List (List ℕ)
  pub read : texts_of input ≡ Ok texts
  pub held : List HeldDigest
  pub are_held : AreHeld file held
  pub such : Such held texts

-- the verdict, which isn't Yes, or what is written of the texts of the input over the image
abbrev pub IsTold : (List ℕ → List ℕ) → ℕ → Answers → List ℕ → Option (List ℕ) → List ℕ → Type 0
IsTold h n answers bytes file input = AreToldSo file input (λ held texts. AreAnswers h held bytes n texts answers)

-- the input has texts, and the file is refused
pub record RefusesFile (ended : Status) (file : Option (List ℕ)) (input : List ℕ) : Type 0 where
  pub texts : List (List ℕ)
  pub read : texts_of input ≡ Ok texts
  pub refused : FileIsRefused ended file

-- the input has no texts: the line is the first that isn't UTF-8
abbrev pub LacksTexts : Status → List ℕ → Type 0
LacksTexts (status.Form line) input = texts_of input ≡ Err line
LacksTexts status.Memory input = Unit {0}
LacksTexts _ input = ⊥

-- why nothing is told: the first line of the input that isn't UTF-8, the digests, or how many entries the image has
abbrev pub LacksTold : Status → (List ℕ → List ℕ) → ℕ → List ℕ → Option (List ℕ) → List ℕ → Type 0
LacksTold (status.Form line) h n bytes file input = texts_of input ≡ Err line
LacksTold (status.Digests index) h n bytes file input = RefusesFile (status.Digests index) file input
LacksTold (status.TooFar entries) h n bytes file input =
    AreToldSo file input (λ held texts. IsTooFar h held bytes n entries)
LacksTold status.Memory h n bytes file input = Unit {0}
LacksTold _ h n bytes file input = ⊥

-- ---- of what stands under the names and came as input

-- such bytes and such a file stand under the names, and such an input came, which is within its limit
pub record StandAndCame (image : List ℕ) (digests : Option (List ℕ)) (names : Option Names) (input : Option (List ℕ))
    (Such : List ℕ → Option (List ℕ) → List ℕ → Type 0) : Type 0 where
  pub bytes : List ℕ
  pub file : Option (List ℕ)
  pub came : List ℕ
  pub are_in_vault : IfSome names (λ n. AreSubject image digests n bytes file)
  pub is_input : IfSome input (λ all. came ≡ all)
  pub within : length came ≤ input_limit
  pub such : Such bytes file came

-- why nothing is told of them: the first name that is at fault, or else the size of the input, its first line that
-- isn't UTF-8, the digests, or how many entries the image has
abbrev pub LacksAnswers : Status → (List ℕ → List ℕ) → List ℕ → ℕ → Option (List ℕ) → Option (List ℕ) → Option Names
    → Type 0 → Type 0 → Type 0
LacksAnswers status.Limit h image n digests input names source vault =
    LacksSubject status.Limit image digests names ⊎ (HasSubject image digests names × IfSome input IsTooMuch)
LacksAnswers (status.Missing which) h image n digests input names source vault =
    LacksSubject (status.Missing which) image digests names
LacksAnswers status.SourceFault h image n digests input names source vault = source
LacksAnswers status.VaultFault h image n digests input names source vault = vault
LacksAnswers status.Memory h image n digests input names source vault = Unit {0}
LacksAnswers ended h image n digests input names source vault =
    StandAndCame image digests names input (LacksTold ended h n)

-- the texts are answered over the image, and a call ends so where that is written
abbrev pub IsAnsweredAs : Status → (List ℕ → List ℕ) → List ℕ → ℕ → Option (List ℕ) → Option (List ℕ) → Option Names
    → Type 0
IsAnsweredAs ended h image n digests input names =
    (text : List ℕ) × (coverage : Coverage) × (done_with digests coverage ≡ ended)
    × StandAndCame image digests names input
    (λ bytes file came. AreToldSo file came (λ held texts. IsWritten h held bytes n texts text coverage))

-- Why a status comes. The causes exclude one another but for those of faults and want of memory, so each comes
-- exactly where its cause stands, unless a fault or want of memory comes before it.
abbrev pub AsOfCause : Status → (List ℕ → List ℕ) → List ℕ → ℕ → Option (List ℕ) → Option (List ℕ) → Option Names
    → Type 0 → Type 0 → Type 0 → Type 0
AsOfCause status.Done h image n digests input names source vault sink =
    IsAnsweredAs status.Done h image n digests input names
AsOfCause status.NoDigestHeld h image n digests input names source vault sink =
    IsAnsweredAs status.NoDigestHeld h image n digests input names
AsOfCause status.No h image n digests input names source vault sink =
    (verdict : Verdict) × (verdict ≡ Yes → ⊥) × StandAndCame image digests names input
    (λ bytes file came. AreToldSo file came (λ held texts. verdict ≡ verdict_of h held bytes))
AsOfCause status.SinkFault h image n digests input names source vault sink = sink
AsOfCause ended h image n digests input names source vault sink =
    LacksAnswers ended h image n digests input names source vault

-- ---- what is said

abbrev pub answers_said : Answers → List ℕ
answers_said (Refused verdict) = verdict_text verdict
answers_said (Written text coverage) = string_bytes text

-- what the sink took of it, and how the call ends then
abbrev pub HasAnswered : Status → Option (List ℕ) → Answers → Option (List ℕ) → Option (List ℕ) → Type 0
HasAnswered status.Done digests (Written text coverage) old new =
    (done_with digests coverage ≡ status.Done) × TellsTaken old new (string_bytes text)
HasAnswered status.NoDigestHeld digests (Written text coverage) old new =
    (done_with digests coverage ≡ status.NoDigestHeld) × TellsTaken old new (string_bytes text)
HasAnswered status.No digests (Refused verdict) old new = TellsTaken old new (verdict_text verdict)
HasAnswered status.SinkFault digests answers old new = TellsPart old new (answers_said answers)
HasAnswered _ digests answers old new = ⊥

-- a verdict that is to be said isn't Yes
abbrev pub AreNoYes : Answers → Type 0
AreNoYes (Refused verdict) = verdict ≡ Yes → ⊥
AreNoYes (Written text coverage) = Unit {0}

-- how saying it ends: all was said, or the sink failed, or memory ran out before
abbrev pub EndsSaying : Status → Option (List ℕ) → Answers → Type 0 → Option (List ℕ) → Option (List ℕ) → Type 0
    → Type 0
EndsSaying status.Done digests answers sink old new idle = HasAnswered status.Done digests answers old new
EndsSaying status.NoDigestHeld digests answers sink old new idle =
    HasAnswered status.NoDigestHeld digests answers old new
EndsSaying status.No digests answers sink old new idle = HasAnswered status.No digests answers old new
EndsSaying status.SinkFault digests answers sink old new idle =
    sink × HasAnswered status.SinkFault digests answers old new
EndsSaying status.Memory digests answers sink old new idle = idle
EndsSaying _ digests answers sink old new idle = ⊥

-- what is noted of it: what the digests cover, where a name of digests is given
abbrev pub answers_note : Option (List ℕ) → Answers → Option Coverage
answers_note (Some digests) (Written text coverage) = Some coverage
answers_note digests answers = None

-- what is told of the image under its name and of the texts of the input was said, and this was noted of it
pub record SaysAnswers (ended : Status) (h : List ℕ → List ℕ) (image : List ℕ) (n : ℕ) (digests : Option (List ℕ))
    (covers : Option Coverage) (input : Option (List ℕ)) (names : Option Names)
    (taken_old taken_new : Option (List ℕ)) : Type 0 where
  pub answers : Answers
  pub told : StandAndCame image digests names input (IsTold h n answers)
  pub said : HasAnswered ended digests answers taken_old taken_new
  pub noted : covers ≡ answers_note digests answers

-- ---- what is called

-- what is left of an input that is told: the input is read behind the names, and whole where something is told of it
abbrev pub HasReadBehind : Status → List ℕ → Option (List ℕ) → Type 0
HasReadBehind (status.Missing which) input rest = rest ≡ Some input
HasReadBehind status.VaultFault input rest = rest ≡ Some input
HasReadBehind status.Limit input rest = (rest ≡ Some input) ⊎ HasRead status.Limit input rest
HasReadBehind ended input rest = HasRead ended input rest

-- what the source answered
abbrev pub AreReadsBehind : Status → List (Result ℕ Failed) → Type 0
AreReadsBehind (status.Missing which) answers = answers ≡ []
AreReadsBehind status.VaultFault answers = answers ≡ []
AreReadsBehind status.Limit answers = (answers ≡ []) ⊎ AreReads status.Limit answers
AreReadsBehind status.Memory answers = (answers ≡ []) ⊎ AreReads status.Memory answers
AreReadsBehind ended answers = AreReads ended answers

-- why the input isn't read to its end
abbrev pub IsUnread : Status → Option (List ℕ) → Type 0 → Type 0
IsUnread status.Limit input source = IfSome input IsTooMuch
IsUnread status.SourceFault input source = source
IsUnread status.Memory input source = Unit {0}
IsUnread _ input source = ⊥
