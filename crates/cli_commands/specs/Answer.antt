-- When a command that runs an input gives each status, and what it has put and written then.
use Rattle.std.specs.Prelude.{◌≡◌, ◌⊎◌, ℕ, List, map, Option, IfSome, Ok}
use Rattle.base_io.specs.Store.{Names}
use Rattle.format_digest.specs.Reading.{IsRead}
use Rattle.format_digest.specs.Writing.{IsFile, held_form}
use Rattle.spec_history.specs.Lists.{Each}
use Rattle.format_journal.specs.Rules.{IsJournal}
use Rattle.server_result.specs.declared.ran.RunOutcome.{RunOutcome as Output}
use Rattle.cli_audit.specs.declared.status.Status.{Status}
use Rattle.cli_audit.specs.declared.status.Status.TheVariants.{Done, Limit, SourceFault, SinkFault, VaultFault, Form, Memory}
use Rattle.cli_audit.specs.Answer.{HasPut, HasWritten}
use Rattle.cli_commands.specs.Input.{InputForm, Says, IsInput, IsBeyond, LacksForm}
use Rattle.cli_audit.specs.Files.{TellsHeld}
use Rattle.cli_commands.specs.Run.{saved_files}

-- Why a status comes of a command that runs inputs of a form, by what the input is, as far as it is told, and
-- by whose faults rose in the call. The causes of Done, Limit and Form exclude one another, so each of these
-- three comes exactly where its cause stands, unless a fault or want of memory comes before it.
abbrev pub InputCause : {A : Type 0} → InputForm A → Status → Option (List ℕ)
    → Type 0 → Type 0 → Type 0 → Type 0
InputCause form Done input source vault sink = IfSome input (IsInput form)
InputCause form Limit input source vault sink = IfSome input (IsBeyond form)
InputCause form SourceFault input source vault sink = source
InputCause form SinkFault input source vault sink = sink
InputCause form VaultFault input source vault sink = vault
InputCause form (Form line) input source vault sink = IfSome input (λ bytes. LacksForm form bytes line)
InputCause form Memory input source vault sink = Unit {0}
InputCause form _ input source vault sink = ⊥

-- This was put and written of what a run left.
pub record Saves (ended : Status) (save : List ℕ) (o : Output)
    (names_old names_new : Option Names) (taken_old taken_new : Option (List ℕ)) : Type 0 where
  pub digests : List ℕ
  pub file : IsFile o.digests digests
  -- of the bytes that are put `read_journal` gives just this journal, since it has a spelling, and
  -- `read_digests` what is held of just these digests
  pub journal_is_encodable : IsJournal o.journal
  pub digests_read_back : IsRead digests (Ok (map held_form o.digests))
  pub put : HasPut ended (saved_files save o digests) names_old names_new
  pub written : HasWritten ended o.transcript taken_old taken_new
  -- where all is done each file stands under its name
  pub are_in_vault : ended ≡ Done → Each (λ f. TellsHeld names_old names_new f.name f.bytes)
      (saved_files save o digests)

-- The input, which has this form, was within its limits and was run. The output has, of what it came to, the
-- text, the images by rising number of items, that of the whole journal, the journal and the digests; this was
-- put and written of it.
pub record RanAndSaved {A : Type 0} (ended : Status) (form : InputForm A) (comes_to : A → Output → Type 0)
    (save : List ℕ) (input : Option (List ℕ))
    (names_old names_new : Option Names) (taken_old taken_new : Option (List ℕ)) : Type 0 where
  pub said : A
  pub output : Output
  pub within : IfSome input (λ bytes. Says form bytes said)
  pub came : comes_to said output
  pub saved : Saves ended save output names_old names_new taken_old taken_new

-- by the status, the input was run, or neither vault nor sink was called
abbrev pub RunOutcomeOrIdle : Status → Type 0 → Type 0 → Type 0
RunOutcomeOrIdle Done ran idle = ran
RunOutcomeOrIdle SinkFault ran idle = ran
RunOutcomeOrIdle VaultFault ran idle = ran
RunOutcomeOrIdle Memory ran idle = ran ⊎ idle
RunOutcomeOrIdle _ ran idle = idle
