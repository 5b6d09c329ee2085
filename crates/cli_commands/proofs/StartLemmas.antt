-- How a call ends that goes on from a journal, by how its parts end.
use Rattle.std.proofs.Common.{◌≡◌, ◌⊎◌, ◌+◌, ◌≤◌, ℕ, List, [], length, drop, Option, Some, None, IfSome, Ok, Result, sym, ◌∙◌, ap, arith, refl, subst, inl, inr}
use Rattle.std.proofs.Math.Seq.{drop-length}
use Rattle.std.proofs.lemmas.List.{drop_all}
use Rattle.base_io.specs.declared.failed.Failed.{Failed}
use Rattle.base_io.specs.History.{EndsAt, Since}
use Rattle.base_io.specs.Store.{Names}
use Rattle.sql_types.specs.declared.journal.Journal.{Journal as JournalOf}
use Rattle.server_session.specs.KeptCell.{KeptCell}
use Rattle.cli_audit.specs.declared.status.Status.{Status}
use Rattle.cli_audit.specs.declared.status.Status.TheVariants.{Done, No, Words, Limit, SourceFault, SinkFault, VaultFault, Missing, Digests, Journal, Form, Memory, NotImage, NoEntry, Receipt, TooFar, NoDigestHeld}
use Rattle.cli_audit.specs.AsOf.{HasReadBehind, IsUnread}
use Rattle.cli_audit.specs.Calls.{AreWrites, Moved}
use Rattle.cli_audit.specs.Past.{AreReadsBehindPast, HasReadBehindPast, MayGoOn, PastUnder}
use Rattle.cli_audit.specs.Replay.{JournalUnder, ReplayedOrIdle}
use Rattle.cli_audit.specs.Transfer.{input_limit}
use Rattle.cli_audit.proofs.AsOfLemmas.{by_unread}
use Rattle.cli_audit.proofs.CallLemmas.{since_weaker}
use Rattle.cli_audit.proofs.PastLemmas.{IsBehindInput, by_past, by_run, leads_may_go_on, unread_read_behind}
use Rattle.cli_commands.specs.Answer.{InputCause, RunOutcomeOrIdle}
use Rattle.cli_commands.specs.GoesOn.{CauseBehind, LacksStart, StartsFrom}
use Rattle.cli_commands.specs.Input.{InputForm}

-- ---- no run starts

module _ (journal : List ℕ) (names : Option Names) (vault : Type 0) (input : Option (List ℕ)) (source : Type 0) where
  by_lacking : (P : Status → Type 0) → P Limit → ((which : ℕ) → P (Missing which)) → ((at : Option (ℕ × ℕ)) → P (Journal at)) → P VaultFault → P SourceFault → P Memory
      → (status : Status) → LacksStart status journal names input source vault → P status
  by_lacking P long missing refused failed silent short status (inl lacks) = by_past P journal names vault long missing refused failed short status lacks
  by_lacking P long missing refused failed silent short status (inr lacks) = by_unread P input source (λ much. long) (λ fault. silent) short status lacks.1

  module _ (status : Status) (lacks : LacksStart status journal names input source vault) where
    pub writes_lacking : AreWrites status []
    writes_lacking = by_lacking (λ s. AreWrites s []) refl (λ which. refl) (λ at. refl) refl refl refl status lacks

-- ---- a run was started

module _ {A : Type 0} (form : InputForm A) where
  pub is_behind_input : (status : Status) (bytes : Option (List ℕ)) (vault sink : Type 0) → InputCause form status bytes ⊥ vault sink → IsBehindInput status
  is_behind_input Done bytes vault sink cause = tt
  is_behind_input Limit bytes vault sink cause = tt
  is_behind_input SinkFault bytes vault sink cause = tt
  is_behind_input VaultFault bytes vault sink cause = tt
  is_behind_input (Form line) bytes vault sink cause = tt
  is_behind_input Memory bytes vault sink cause = tt
  is_behind_input SourceFault bytes vault sink cause = absurd cause
  is_behind_input No bytes vault sink cause = absurd cause
  is_behind_input Words bytes vault sink cause = absurd cause
  is_behind_input (Missing which) bytes vault sink cause = absurd cause
  is_behind_input (Digests index) bytes vault sink cause = absurd cause
  is_behind_input (Journal at) bytes vault sink cause = absurd cause
  is_behind_input NotImage bytes vault sink cause = absurd cause
  is_behind_input NoEntry bytes vault sink cause = absurd cause
  is_behind_input Receipt bytes vault sink cause = absurd cause
  is_behind_input (TooFar entries) bytes vault sink cause = absurd cause
  is_behind_input NoDigestHeld bytes vault sink cause = absurd cause

module _ (status : Status) (is : IsBehindInput status) where
  read_all : (input : List ℕ) (rest : Option (List ℕ)) → length input ≤ input_limit → rest ≡ Some [] → HasReadBehindPast status input rest
  read_all input rest within none =
      let all : rest ≡ Some (drop (input_limit + 1) input) = none ∙ ap Some (sym (drop_all (input_limit + 1) input (omega (arith, within)))) in
      by_run (λ s. HasReadBehindPast s input rest) none (inr all) none (inr none) (λ line. none)
      (length input, omega (arith, within), none ∙ ap Some (sym (drop-length input))) status is

  -- an input that came whole was read to its end
  pub read_behind : (input rest : Option (List ℕ)) (came : List ℕ) → IfSome input (λ all. came ≡ all) → length came ≤ input_limit → IfSome input (λ all. rest ≡ Some [])
      → IfSome input (λ all. HasReadBehindPast status all rest)
  read_behind None rest came same within none = tt
  read_behind (Some all) rest came same within none = read_all all rest (subst (λ (l : List ℕ). length l ≤ input_limit) same within) none

  pub reads_behind : (old new : List (Result ℕ Failed) → Type 0) → Since old new (EndsAt Moved (Ok 0)) → Since old new (AreReadsBehindPast status)
  reads_behind old new =
      since_weaker old new (EndsAt Moved (Ok 0)) (AreReadsBehindPast status)
      (by_run (λ s. (answers : List (Result ℕ Failed)) → EndsAt Moved (Ok 0) answers → AreReadsBehindPast s answers)
      (λ answers end. end) (λ answers end. inr (inr end)) (λ answers end. end) (λ answers end. inr end) (λ line answers end. end) (λ answers end. inr (inr end)) status is)

  pub ran_behind : (ran idle then_ idle_then : Type 0) → (ran → then_) → (idle → idle_then) → RunOutcomeOrIdle status ran idle → ReplayedOrIdle status then_ idle_then
  ran_behind ran idle then_ idle_then f g =
      by_run (λ s. RunOutcomeOrIdle s ran idle → ReplayedOrIdle s then_ idle_then) (λ r. f r) (λ r. g r) (λ r. f r) (λ r. inl (f r)) (λ line r. g r) ran_or status is
    where
      ran_or : ran ⊎ idle → then_ ⊎ idle_then
      ran_or (inl r) = inl (f r)
      ran_or (inr i) = inr (g i)

-- what is so of what came is so of the input
pub came_so : (input : Option (List ℕ)) (came : List ℕ) (P : List ℕ → Type 0) → IfSome input (λ all. came ≡ all) → P came → IfSome input P
came_so None came P is p = tt
came_so (Some all) came P is p = subst P is p

pub cause_behind : {A : Type 0} (form : InputForm A) (journal : List ℕ) (names : Option Names) (input : Option (List ℕ)) (came : List ℕ) (source vault vault_then sink : Type 0)
    → PastUnder journal names → IfSome input (λ all. came ≡ all) → (vault → vault_then) → (status : Status) → InputCause form status (Some came) ⊥ vault sink
    → CauseBehind form status journal names input source vault_then sink
cause_behind form journal names input came source vault vault_then sink past same f status cause =
    by_run (λ s. InputCause form s (Some came) ⊥ vault sink → CauseBehind form s journal names input source vault_then sink)
    (λ c. (past, came_so input came _ same c)) (λ c. inr (past, came_so input came _ same c)) (λ c. c) (λ c. f c) (λ line c. (past, came_so input came _ same c)) (λ c. tt)
    status (is_behind_input form status (Some came) vault sink cause) cause

-- ---- a run starts from what stands under a name

pub under_weaker : (name : List ℕ) (names : Option Names) (Such Then : JournalOf → Type 0) → ((J : JournalOf) → Such J → Then J) → JournalUnder name names Such → JournalUnder name names Then
under_weaker name names Such Then f under =
    record { J = under.J; bytes = under.bytes; is_in_vault = under.is_in_vault; spelled = under.spelled; such = f under.J under.such }

-- so a journal stands there from which one can go on
pub started_under : (h : List ℕ → List ℕ) (size : ℕ) (name : List ℕ) (names : Option Names) (database : List ℕ) (cells : List KeptCell)
    → JournalUnder name names (λ J. StartsFrom h size J database cells) → PastUnder name names
started_under h size name names database cells =
    under_weaker name names (λ J. StartsFrom h size J database cells) MayGoOn (λ J starts. leads_may_go_on h size J starts.past starts.leads)

pub unread_told : (input rest : Option (List ℕ)) (told : Option (List ℕ)) (source : Type 0) (status : Status) → IsUnread status told source
    → IfSome input (λ all. HasReadBehind status all rest) → IfSome input (λ all. HasReadBehindPast status all rest)
unread_told None rest told source status unread read = tt
unread_told (Some all) rest told source status unread read = unread_read_behind told source status unread all rest read
