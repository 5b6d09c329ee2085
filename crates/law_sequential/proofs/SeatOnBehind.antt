-- How a course behind a past goes on by its sessions with the steps and visits of one seat, which tell what its session gains.
use Rattle.std.proofs.Common.{◌≡◌, ◌<◌, ℕ, suc, List, [], ◌∷◌, ◌++◌, map, slice_set, refl, sym, ap, subst, ◌∙◌, append-nil}
use mathlib.Core.Option.{some, some-injective}
use lib.ListN.{get_elem?}
use Rattle.spec_history.specs.Inputs.{InputLine}
use Rattle.spec_history.specs.Lists.{Text, Each, In}
use Rattle.spec_history.specs.Transcripts.{Entry}
use Rattle.spec_protocol.specs.Alone.{Alones}
use Rattle.spec_protocol.specs.Cells.{Cell, Ledger, LedgerCell, ledger_at, pending_in}
use Rattle.spec_protocol.specs.AnonymousActs.{AnonymousAct, did, alones_acts, may_anonymous_acts}
use Rattle.spec_protocol.specs.Follows.{alones_lines, may_lines, names_begun}
use Rattle.spec_protocol.specs.LedgerVisits.{Closes}
use Rattle.spec_protocol.specs.AllowedVisit.{AllowedVisit, OutsAreIn}
use Rattle.spec_protocol.specs.Seats.{KeptImage, Session, session, SeatState}
use Rattle.spec_protocol.specs.Server.{Server}
use Rattle.law_behind.specs.Past.{Past}
use Rattle.law_sequential.specs.RunStart.{RunStart}
use Rattle.law_sequential.specs.RunBehind.{SequentialRunBehind}
use Rattle.law_sequential.specs.EndsLast.{Phase, InPhase}
use Rattle.law_sequential.specs.InStep.{ClosesForDigest}
use Rattle.law_sequential.specs.Sessions.{SessionOutput, names_told, told_with, Gains, Writes, Runs, IsShown, OthersInactive}
use Rattle.law_sequential.specs.SessionsBehind.{SessionsStandBehind}
use Rattle.law_sequential.proofs.Goes.{cell_same}
use Rattle.law_sequential.proofs.GoesBehind.{alones_more, visit_more, close_more}
use Rattle.law_sequential.proofs.SeatOn.{runs_on, over_on, still_runs, waits_by_anonymous_acts}
use Rattle.law_sequential.proofs.SessionsStand.{ShownAt, shown_at, inactive_except}
use Rattle.law_sequential.proofs.SessionsStandBehind.{one_seat_on, cells_on}

module _ {v : Server} {database : Text} {size : ℕ} {past : Past} {start : RunStart v database size past} {phase : Phase} {lines : List InputLine} {moments : List ℕ} {told : List SessionOutput} {cells : List Cell} {states : List SeatState} (c : SessionsStandBehind start phase lines moments told cells states)
    (j : ℕ) (s : SeatState) (there : get_elem? states j ≡ some s) (k : SessionOutput) (is_told : get_elem? told j ≡ some k) (others : OthersInactive states j) where
  its : ShownAt moments told j s
  its = shown_at moments told states c.shown j s there

  runs_there : (x : Session) → s.role ≡ session x → Runs moments k s
  runs_there x role = still_runs moments k s x role (subst (λ (l : SessionOutput). IsShown moments l s) (some-injective its.k k (sym its.there ∙ is_told)) its.is)

  named : (ds : List AnonymousAct) → names_begun ds ≡ [] → names_told told ++ names_begun ds ≡ names_told told
  named ds e = ap (λ (ns : List Text). names_told told ++ ns) e ∙ append-nil (names_told told)

  pub alone_on : (t : SeatState) (steps : Alones v s t) → Each (InPhase phase) (map did (alones_acts steps)) → names_begun (map did (alones_acts steps)) ≡ []
      → (entries : List Entry) (images : List KeptImage) (times later : List ℕ) → Gains s entries images times t → Each (λ time. In time later) times
      → SessionsStandBehind start phase (lines ++ alones_lines steps) (moments ++ later) (slice_set told j (told_with k entries images)) cells (slice_set states j t)
  alone_on t steps phased nameless entries images times later g at = one_seat_on c later j s t (told_with k entries images) k there is_told refl
      (subst (λ (ns : List Text). SequentialRunBehind start phase ns (lines ++ alones_lines steps) cells (slice_set (c.parent ∷ states) (suc j) t)) (named (map did (alones_acts steps)) nameless)
      (alones_more c.sequential_run (suc j) s there (inactive_except c.parent states j c.rests others) t steps phased))
      (runs_on moments later k s t entries images times (runs_there g.x g.before) g at)

  pub over_now : (t : SeatState) (steps : Alones v s t) → Each (InPhase phase) (map did (alones_acts steps)) → names_begun (map did (alones_acts steps)) ≡ []
      → (entries : List Entry) (later : List ℕ) → Writes s entries t
      → SessionsStandBehind start phase (lines ++ alones_lines steps) (moments ++ later) (slice_set told j (told_with k entries [])) cells (slice_set states j t)
  over_now t steps phased nameless entries later g = one_seat_on c later j s t (told_with k entries []) k there is_told refl
      (subst (λ (ns : List Text). SequentialRunBehind start phase ns (lines ++ alones_lines steps) cells (slice_set (c.parent ∷ states) (suc j) t)) (named (map did (alones_acts steps)) nameless)
      (alones_more c.sequential_run (suc j) s there (inactive_except c.parent states j c.rests others) t steps phased))
      (over_on moments later k s t entries (runs_there g.x g.before) g)

  pub visit_on : (out : List (ℕ × Cell)) → OutsAreIn cells out → (i : ℕ) (d : Cell) (t : SeatState) (m : AllowedVisit v s out i d t) → Each (InPhase phase) (may_anonymous_acts m) → names_begun (may_anonymous_acts m) ≡ []
      → (l : LedgerCell) → get_elem? cells ledger_at ≡ some (Ledger l) → pending_in l < size → ClosesForDigest (may_anonymous_acts m)
      → (entries : List Entry) (images : List KeptImage) (times later : List ℕ) → Gains s entries images times t → Each (λ time. In time later) times
      → SessionsStandBehind start phase (lines ++ may_lines m) (moments ++ later) (slice_set told j (told_with k entries images)) (slice_set cells i d) (slice_set states j t)
  visit_on out outs i d t m phased nameless l lies below digests entries images times later g at = one_seat_on c later j s t (told_with k entries images) k there is_told refl
      (subst (λ (ns : List Text). SequentialRunBehind start phase ns (lines ++ may_lines m) (slice_set cells i d) (slice_set (c.parent ∷ states) (suc j) t)) (named (may_anonymous_acts m) nameless)
      (visit_more c.sequential_run (suc j) s there (inactive_except c.parent states j c.rests others) out outs i d t m phased
      (waits_by_anonymous_acts size c.sequential_run.ledger (subst (λ (z : LedgerCell). pending_in z < size) (sym (cell_same c.sequential_run.ledger l (sym c.sequential_run.there ∙ lies))) below) m digests)))
      (runs_on moments later k s t entries images times (runs_there g.x g.before) g at)

  -- its seat closes a full block
  pub close_on : (l : LedgerCell) → get_elem? cells ledger_at ≡ some (Ledger l) → pending_in l ≡ size → (n : ℕ) (d : LedgerCell) → Closes v n l d
      → SessionsStandBehind start phase lines moments told (slice_set cells ledger_at (Ledger d)) states
  close_on l lies is_full n d closes = cells_on c (close_more c.sequential_run (suc j) s there (inactive_except c.parent states j c.rests others) l lies is_full n d closes)
