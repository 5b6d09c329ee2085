-- What `verify` says and answers.
use Rattle.std.specs.Prelude.{◌≡◌, ℕ, Bool, true, false, List, [], ◌∷◌, ◌++◌, Option, Some, None, IfSome}
use Rattle.base_io.specs.Outside.{TellsTaken}
use Rattle.base_io.specs.Store.{Names}
use Rattle.sql_types.specs.declared.digest.HeldDigest.{HeldDigest}
use Rattle.spec_verify.specs.declared.place.Verdict.TheVariants.{Yes}
use Rattle.audit_answers.specs.declared.coverage.Coverage.{Coverage}
use Rattle.audit_answers.specs.declared.coverage.Judgement.{Judgement}
use Rattle.audit_answers.specs.declared.coverage.Judgement.TheVariants.{Accepted, Refused}
use Rattle.audit_answers.specs.Covers.{IsJudged, coverage_text}
use Rattle.cli_audit.specs.declared.status.Status.{Status}
use Rattle.cli_audit.specs.declared.status.Status.TheVariants.{Done, No, Limit, SinkFault, VaultFault, Missing, Digests, Memory, NoDigestHeld}
use Rattle.cli_audit.specs.Subject.{AreHeld, AreSubject, FileIsRefused, LacksSubject, done_with}
use Rattle.cli_audit.specs.Transfer.{TellsPart}
use Rattle.cli_audit.specs.Verify.{verdict_text}

-- the file has some digests, or there are none where there is no file, and this is judged of the bytes with them
abbrev pub IsJudgedOn : (List ℕ → List ℕ) → List ℕ → Option (List ℕ) → Judgement → Type 0
IsJudgedOn h bytes file judgement = (held : List HeldDigest) × AreHeld file held × IsJudged h held bytes judgement

-- this is judged of what stands under the names
pub record IsVerified (h : List ℕ → List ℕ) (image : List ℕ) (digests : Option (List ℕ)) (names : Option Names)
    (judgement : Judgement) : Type 0 where
  pub bytes : List ℕ
  pub file : Option (List ℕ)
  pub are_in_vault : IfSome names (λ n. AreSubject image digests n bytes file)
  pub on : IsJudgedOn h bytes file judgement

-- the file that stands under the name of the digests is refused
pub record HasRefusedFile (ended : Status) (image : List ℕ) (digests : Option (List ℕ)) (names : Option Names)
    : Type 0 where
  pub bytes : List ℕ
  pub file : Option (List ℕ)
  pub are_in_vault : IfSome names (λ n. AreSubject image digests n bytes file)
  pub refused : FileIsRefused ended file

-- why nothing is judged of bytes
abbrev pub LacksJudgement : Status → Option (List ℕ) → Type 0
LacksJudgement (Digests index) file = FileIsRefused (Digests index) file
LacksJudgement Memory file = Unit {0}
LacksJudgement _ file = ⊥

-- why nothing is judged of what stands under the names
abbrev pub LacksVerified : Status → List ℕ → Option (List ℕ) → Option Names → Type 0 → Type 0
LacksVerified Limit image digests names vault = LacksSubject Limit image digests names
LacksVerified (Missing which) image digests names vault = LacksSubject (Missing which) image digests names
LacksVerified (Digests index) image digests names vault = HasRefusedFile (Digests index) image digests names
LacksVerified VaultFault image digests names vault = vault
LacksVerified Memory image digests names vault = Unit {0}
LacksVerified _ image digests names vault = ⊥

-- how a call ends that says what is judged
abbrev pub judgement_status : Option (List ℕ) → Judgement → Status
judgement_status digests (Accepted coverage) = done_with digests coverage
judgement_status digests (Refused verdict) = No

-- something is judged of what stands under the names, and a call ends so where it is said
abbrev pub IsVerifiedAs : Status → (List ℕ → List ℕ) → List ℕ → Option (List ℕ) → Option Names → Type 0
IsVerifiedAs ended h image digests names =
    (judgement : Judgement) × (judgement_status digests judgement ≡ ended) × IsVerified h image digests names judgement

-- Why a status comes. The causes exclude one another but for those of faults and want of memory, so each comes
-- exactly where its cause stands, unless a fault or want of memory comes before it.
abbrev pub VerifyCause : Status → (List ℕ → List ℕ) → List ℕ → Option (List ℕ) → Option Names
    → Type 0 → Type 0 → Type 0
VerifyCause Done h image digests names vault sink = IsVerifiedAs Done h image digests names
VerifyCause NoDigestHeld h image digests names vault sink = IsVerifiedAs NoDigestHeld h image digests names
VerifyCause No h image digests names vault sink = IsVerifiedAs No h image digests names
VerifyCause SinkFault h image digests names vault sink = sink
VerifyCause ended h image digests names vault sink = LacksVerified ended image digests names vault

-- the lines that are written: the verdict, and what the digests cover where that is asked for
abbrev pub judgement_text : Bool → Judgement → List ℕ
judgement_text false (Accepted coverage) = verdict_text Yes
judgement_text true (Accepted coverage) = verdict_text Yes ++ coverage_text coverage ++ 10 ∷ []
judgement_text shows (Refused verdict) = verdict_text verdict

-- what the sink took of them, and how the call ends then
abbrev pub HasSaidJudgement : Status → Option (List ℕ) → Bool → Judgement → Option (List ℕ) → Option (List ℕ) → Type 0
HasSaidJudgement Done digests shows judgement old new =
    (judgement_status digests judgement ≡ Done) × TellsTaken old new (judgement_text shows judgement)
HasSaidJudgement NoDigestHeld digests shows judgement old new =
    (judgement_status digests judgement ≡ NoDigestHeld) × TellsTaken old new (judgement_text shows judgement)
HasSaidJudgement No digests shows judgement old new =
    (judgement_status digests judgement ≡ No) × TellsTaken old new (judgement_text shows judgement)
HasSaidJudgement SinkFault digests shows judgement old new = TellsPart old new (judgement_text shows judgement)
HasSaidJudgement _ digests shows judgement old new = ⊥

-- what is noted of it: what the digests cover, where it isn't shown
abbrev pub judgement_note : Bool → Judgement → Option Coverage
judgement_note false (Accepted coverage) = Some coverage
judgement_note true (Accepted coverage) = None
judgement_note shows (Refused verdict) = None

-- what is judged of what stands under the names was said, and this was noted of it
pub record SaysVerdict (ended : Status) (h : List ℕ → List ℕ) (image : List ℕ) (digests : Option (List ℕ))
    (shows : Bool) (covers : Option Coverage) (names : Option Names) (taken_old taken_new : Option (List ℕ))
    : Type 0 where
  pub judgement : Judgement
  pub verified : IsVerified h image digests names judgement
  pub said : HasSaidJudgement ended digests shows judgement taken_old taken_new
  pub noted : covers ≡ judgement_note shows judgement
