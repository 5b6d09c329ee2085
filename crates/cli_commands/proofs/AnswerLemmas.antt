-- How what a call has read, put and written follows from the parts of the call.
use Rattle.std.proofs.Common.{◌≡◌, ◌+◌, ℕ, List, Option, Some, None, IfSome, Ok, Vec, sym, ◌∙◌, ap, arith, subst, length, inl, inr}
use Rattle.std.proofs.Math.Seq.{drop-length}
use Rattle.std.proofs.lemmas.List.{drop_all}
use Rattle.std.specs.declared.alloc.Global.{Global}
use Rattle.cli_audit.specs.declared.status.Status.{Status}
use Rattle.cli_audit.specs.declared.status.Status.TheVariants.{Done, No, Words, Limit, SourceFault, SinkFault, VaultFault, Missing, Digests, Journal, Form, Memory, NotImage, NoEntry, Receipt, TooFar, NoDigestHeld}
use Rattle.cli_commands.specs.Input.{InputForm, IsInput}
use Rattle.cli_audit.specs.Transfer.{input_limit, IsInputRead}
use Rattle.cli_audit.specs.Answer.{HasRead, EndsBy}
use Rattle.cli_commands.specs.Answer.{InputCause, RunOutcomeOrIdle}

-- what is known of the bytes that came is known of the input
pub bytes_came : (input rest : Option (List ℕ)) (v : Vec ℕ Global) (bytes : List ℕ) (P : List ℕ → Type 0) → IfSome input (λ i. IsInputRead i rest (Ok v)) → bytes ≡ v.items → P bytes → IfSome input P
bytes_came None rest v bytes P came is p = tt
bytes_came (Some i) rest v bytes P came is p = subst P (is ∙ came.0) p

module _ {A : Type 0} (form : InputForm A) where
  -- the same of the cause of a status, which no source that fell silent has then
  pub cause_came : (status : Status) (source vault sink : Type 0) (input rest : Option (List ℕ)) (v : Vec ℕ Global) (bytes : List ℕ)
      → IfSome input (λ i. IsInputRead i rest (Ok v)) → bytes ≡ v.items → InputCause form status (Some bytes) ⊥ vault sink → InputCause form status input source vault sink
  cause_came Done source vault sink input rest v bytes came is cause = bytes_came input rest v bytes _ came is cause
  cause_came Words source vault sink input rest v bytes came is cause = absurd cause
  cause_came No source vault sink input rest v bytes came is cause = absurd cause
  cause_came (Missing which) source vault sink input rest v bytes came is cause = absurd cause
  cause_came (Digests index) source vault sink input rest v bytes came is cause = absurd cause
  cause_came NoEntry source vault sink input rest v bytes came is cause = absurd cause
  cause_came NotImage source vault sink input rest v bytes came is cause = absurd cause
  cause_came Receipt source vault sink input rest v bytes came is cause = absurd cause
  cause_came (TooFar entries) source vault sink input rest v bytes came is cause = absurd cause
  cause_came NoDigestHeld source vault sink input rest v bytes came is cause = absurd cause
  cause_came (Journal at) source vault sink input rest v bytes came is cause = absurd cause
  cause_came Limit source vault sink input rest v bytes came is cause = bytes_came input rest v bytes _ came is cause
  cause_came SourceFault source vault sink input rest v bytes came is cause = absurd cause
  cause_came SinkFault source vault sink input rest v bytes came is cause = cause
  cause_came VaultFault source vault sink input rest v bytes came is cause = cause
  cause_came (Form line) source vault sink input rest v bytes came is cause = bytes_came input rest v bytes _ came is cause
  cause_came Memory source vault sink input rest v bytes came is cause = tt

  -- an input that came whole was read to its end
  read_whole : (status : Status) (bytes : Option (List ℕ)) (vault sink : Type 0) (input : List ℕ) (rest : Option (List ℕ)) (v : Vec ℕ Global)
      → InputCause form status bytes ⊥ vault sink → IsInputRead input rest (Ok v) → HasRead status input rest
  read_whole Done bytes vault sink input rest v cause came = came.2
  read_whole Words bytes vault sink input rest v cause came = absurd cause
  read_whole No bytes vault sink input rest v cause came = absurd cause
  read_whole (Missing which) bytes vault sink input rest v cause came = absurd cause
  read_whole (Digests index) bytes vault sink input rest v cause came = absurd cause
  read_whole NoEntry bytes vault sink input rest v cause came = absurd cause
  read_whole NotImage bytes vault sink input rest v cause came = absurd cause
  read_whole Receipt bytes vault sink input rest v cause came = absurd cause
  read_whole (TooFar entries) bytes vault sink input rest v cause came = absurd cause
  read_whole NoDigestHeld bytes vault sink input rest v cause came = absurd cause
  read_whole (Journal at) bytes vault sink input rest v cause came = absurd cause
  read_whole Limit bytes vault sink input rest v cause came = came.2 ∙ ap Some (sym (drop_all (input_limit + 1) input (omega (arith, came.1))))
  read_whole SourceFault bytes vault sink input rest v cause came = absurd cause
  read_whole SinkFault bytes vault sink input rest v cause came = came.2
  read_whole VaultFault bytes vault sink input rest v cause came = came.2
  read_whole (Form line) bytes vault sink input rest v cause came = came.2
  read_whole Memory bytes vault sink input rest v cause came = (length input, omega (arith, came.1), came.2 ∙ ap Some (sym (drop-length input)))

  pub read_told : (status : Status) (bytes : Option (List ℕ)) (vault sink : Type 0) (input rest : Option (List ℕ)) (v : Vec ℕ Global)
      → InputCause form status bytes ⊥ vault sink → IfSome input (λ i. IsInputRead i rest (Ok v)) → IfSome input (λ i. HasRead status i rest)
  read_told status bytes vault sink None rest v cause came = tt
  read_told status bytes vault sink (Some input) rest v cause came = read_whole status bytes vault sink input rest v cause came

-- a call that ends by putting and writing has run
pub ran_by : (status : Status) (vault sink ran idle : Type 0) → EndsBy status vault sink → ran → RunOutcomeOrIdle status ran idle
ran_by Done vault sink ran idle ends r = r
ran_by SinkFault vault sink ran idle ends r = r
ran_by VaultFault vault sink ran idle ends r = r
ran_by Memory vault sink ran idle ends r = inl r
ran_by Words vault sink ran idle ends r = absurd ends
ran_by No vault sink ran idle ends r = absurd ends
ran_by (Missing which) vault sink ran idle ends r = absurd ends
ran_by (Digests index) vault sink ran idle ends r = absurd ends
ran_by NoEntry vault sink ran idle ends r = absurd ends
ran_by NotImage vault sink ran idle ends r = absurd ends
ran_by Receipt vault sink ran idle ends r = absurd ends
ran_by (TooFar entries) vault sink ran idle ends r = absurd ends
ran_by NoDigestHeld vault sink ran idle ends r = absurd ends
ran_by (Journal at) vault sink ran idle ends r = absurd ends
ran_by Limit vault sink ran idle ends r = absurd ends
ran_by SourceFault vault sink ran idle ends r = absurd ends
ran_by (Form line) vault sink ran idle ends r = absurd ends

-- what is known of a run is known of the call round it
pub ran_within : (status : Status) (ran ran' idle : Type 0) → (ran → ran') → RunOutcomeOrIdle status ran idle → RunOutcomeOrIdle status ran' idle
ran_within Done ran ran' idle f r = f r
ran_within SinkFault ran ran' idle f r = f r
ran_within VaultFault ran ran' idle f r = f r
ran_within Memory ran ran' idle f (inl r) = inl (f r)
ran_within Memory ran ran' idle f (inr i) = inr i
ran_within Words ran ran' idle f r = r
ran_within No ran ran' idle f r = r
ran_within (Missing which) ran ran' idle f r = r
ran_within (Digests index) ran ran' idle f r = r
ran_within NoEntry ran ran' idle f r = r
ran_within NotImage ran ran' idle f r = r
ran_within Receipt ran ran' idle f r = r
ran_within (TooFar entries) ran ran' idle f r = r
ran_within NoDigestHeld ran ran' idle f r = r
ran_within (Journal at) ran ran' idle f r = r
ran_within Limit ran ran' idle f r = r
ran_within SourceFault ran ran' idle f r = r
ran_within (Form line) ran ran' idle f r = r

-- a call that ran an input ends so by how putting and writing end
pub cause_by : {A : Type 0} (form : InputForm A) (status : Status) (bytes : List ℕ) (vault sink : Type 0) → IsInput form bytes → EndsBy status vault sink
    → InputCause form status (Some bytes) ⊥ vault sink
cause_by form Done bytes vault sink said ends = said
cause_by form SinkFault bytes vault sink said ends = ends
cause_by form VaultFault bytes vault sink said ends = ends
cause_by form Memory bytes vault sink said ends = tt
cause_by form Words bytes vault sink said ends = absurd ends
cause_by form No bytes vault sink said ends = absurd ends
cause_by form (Missing which) bytes vault sink said ends = absurd ends
cause_by form (Digests index) bytes vault sink said ends = absurd ends
cause_by form NoEntry bytes vault sink said ends = absurd ends
cause_by form NotImage bytes vault sink said ends = absurd ends
cause_by form Receipt bytes vault sink said ends = absurd ends
cause_by form (TooFar entries) bytes vault sink said ends = absurd ends
cause_by form NoDigestHeld bytes vault sink said ends = absurd ends
cause_by form (Journal at) bytes vault sink said ends = absurd ends
cause_by form Limit bytes vault sink said ends = absurd ends
cause_by form SourceFault bytes vault sink said ends = absurd ends
cause_by form (Form line) bytes vault sink said ends = absurd ends
