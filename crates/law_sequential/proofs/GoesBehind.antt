-- How a course behind a past goes on: with each step, with what it adds.
use Rattle.std.proofs.Common.{◌≡◌, ℕ, ◌≤◌, length, true, List, [], ◌∷◌, ◌++◌, map, slice_set, refl, sym, ap, subst, subst₂, ◌∙◌, append-nil, append_assoc, arith}
use Rattle.std.specs.Prelude.{◌==◌}
use mathlib.Core.Option.{some, none}
use lib.ListN.{get_elem?}
use Rattle.spec_history.specs.Acts.{starts}
use Rattle.spec_history.specs.Histories.{pending}
use Rattle.spec_history.specs.Inputs.{InputLine}
use Rattle.spec_history.specs.Lists.{Text, Each}
use Rattle.spec_protocol.specs.Alone.{Alone, Alones, none, more}
use Rattle.spec_protocol.specs.Alone as alone
use Rattle.spec_protocol.specs.ActsOf.{alone_acts}
use Rattle.spec_protocol.specs.Cells.{Cell, Ledger, LedgerCell, AreCells, ledger_at, pending_in}
use Rattle.spec_protocol.specs.LedgerVisits.{Closes}
use Rattle.spec_protocol.specs.AnonymousActs.{AnonymousAct, did, alones_acts, visit_anonymous_acts, may_anonymous_acts, step_anonymous_acts, steps_anonymous_acts}
use Rattle.spec_protocol.specs.Follows.{names_begun, alone_lines, alones_lines, may_lines, step_lines}
use Rattle.spec_protocol.specs.AllowedVisit.{AllowedVisit, OutsAreIn, first_seat}
use Rattle.spec_protocol.specs.OneByOne.{IsOneAlone}
use Rattle.spec_protocol.specs.InactiveExcept.{IsInactive, InactiveExcept}
use Rattle.spec_protocol.specs.Moves.{sits}
use Rattle.spec_protocol.specs.Seats.{SeatState, kept, split}
use Rattle.spec_protocol.specs.Visits as visit
use Rattle.spec_protocol.specs.Server.{Server}
use Rattle.spec_protocol.specs.Steps as step
use Rattle.spec_protocol.specs.Steps.{Step}
use Rattle.law_protocol.proofs.LedgerVisit.{the_ledger}
use Rattle.spec_protocol.proofs.Places.{set_same, set_here, set_again}
use Rattle.law_behind.specs.Past.{Past, unclosed}
use Rattle.law_sequential.specs.RunStart.{RunStart}
use Rattle.law_sequential.specs.SequentialRun.{StaysInside}
use Rattle.law_sequential.specs.RunBehind.{SequentialRunBehind}
use Rattle.law_sequential.specs.EndsLast.{Phase, running, ending, InPhase}
use Rattle.law_sequential.specs.InStep.{InStep, due_in, Waits}
use Rattle.law_sequential.proofs.Calm.{Still, alone_still, alones_still, still_in_step}
use Rattle.law_sequential.proofs.Closes.{in_step_append}
use Rattle.law_sequential.proofs.LedgerInStep.{due_below}
use Rattle.law_sequential.proofs.SinceStart.{SinceStart, since_start}
use Rattle.law_sequential.proofs.VisitInStep.{LedgerAfter, visit_in_step}
use Rattle.law_sequential.proofs.Goes.{acts_append, before_last, came_on, cell_same, each_left, last_set, last_there, may_inside, more_names, plain_names, plain_phase, still_inactive}

-- ---- at the beginning

pub sequential_run_begins : {v : Server} {database : Text} {size : ℕ} {past : Past} (start : RunStart v database size past) → SequentialRunBehind start running [] [] start.begins.cells (first_seat start.begins.cells ∷ [])
sequential_run_begins {size = size} {past = past} start = record {
  steps = step.none;
  one_by_one = tt;
  begun = refl;
  taken_up = refl;
  came_so = tt;
  ledger = start.begins.stands.ledger;
  there = start.begins.stands.are_cells.has_ledger;
  closes = ap (λ (p : Past). pending (unclosed p.items)) (sym start.of_past) ∙ ap pending (sym start.begins.pending) ∙ sym (due_below size start.begins.stands.ledger start.begins.below);
}

-- ---- with one step more

module _ {v : Server} {database : Text} {size : ℕ} {past : Past} {start : RunStart v database size past} {phase : Phase} {names : List Text} {lines : List InputLine} {cells : List Cell} {seats : List SeatState} (c : SequentialRunBehind start phase names lines cells seats) where
  pub since : SinceStart start.begins cells seats c.steps
  since = since_start start.begins cells seats c.steps

  -- some entry fits into a block
  pub some_size : 1 ≤ size
  some_size = let few = start.begins.below in omega (arith, few)

  -- the ledger's cell that lies there is the one that stands
  pub ledger_is : c.ledger ≡ since.stands.ledger
  ledger_is = the_ledger cells since.stands.catalog since.stands.ledger c.ledger since.stands.are_cells c.there

  pub sized : c.ledger.block_size ≡ size
  sized = ap (λ (l : LedgerCell). l.block_size) ledger_is ∙ since.same_size

  -- a step that one seat takes, with its deeds and lines
  pub one_more : {then_cells : List Cell} {then_seats : List SeatState} (s : Step v cells seats then_cells then_seats) → IsOneAlone s → Each (InPhase phase) (step_anonymous_acts s)
      → (then_ledger : LedgerCell) → get_elem? then_cells ledger_at ≡ some (Ledger then_ledger) → InStep size (due_in size c.ledger) (step_anonymous_acts s) (due_in size then_ledger)
      → SequentialRunBehind start phase (names ++ names_begun (step_anonymous_acts s)) (lines ++ step_lines s) then_cells then_seats
  one_more s one phased then_ledger there closes = record {
    steps = step.more c.steps s;
    one_by_one = (c.one_by_one, one);
    begun = more_names (steps_anonymous_acts c.steps) (step_anonymous_acts s) ∙ ap (λ (ns : List Text). ns ++ names_begun (step_anonymous_acts s)) c.begun;
    taken_up = ap (λ (ls : List InputLine). ls ++ step_lines s) c.taken_up;
    came_so = came_on phase (steps_anonymous_acts c.steps) (step_anonymous_acts s) c.came_so phased;
    ledger = then_ledger;
    there = there;
    closes = in_step_append size (steps_anonymous_acts c.steps) (step_anonymous_acts s) (pending (unclosed past.items)) (due_in size c.ledger) (due_in size then_ledger) c.closes closes;
  }

  still_due : (ds : List AnonymousAct) → Each Still ds → InStep size (due_in size c.ledger) ds (due_in size c.ledger)
  still_due ds h = still_in_step size (pending_in c.ledger == size) (pending_in c.ledger) ds h

  pub alone_more : (j : ℕ) (s t : SeatState) → get_elem? seats j ≡ some s → InactiveExcept seats j → (how : Alone v s t) → Each (InPhase phase) (map did (alone_acts how))
      → SequentialRunBehind start phase (names ++ names_begun (map did (alone_acts how))) (lines ++ alone_lines how) cells (slice_set seats j t)
  alone_more j s t there quiet how phased = one_more (step.alone j s t there how refl refl) quiet phased c.ledger c.there (still_due (map did (alone_acts how)) (alone_still how))

  pub visit_more : (j : ℕ) (s : SeatState) → get_elem? seats j ≡ some s → InactiveExcept seats j → (out : List (ℕ × Cell)) → OutsAreIn cells out → (i : ℕ) (d : Cell) (t : SeatState) → (m : AllowedVisit v s out i d t)
      → Each (InPhase phase) (may_anonymous_acts m) → Waits size c.ledger m.visit
      → SequentialRunBehind start phase (names ++ names_begun (may_anonymous_acts m)) (lines ++ may_lines m) (slice_set cells i d) (slice_set seats j t)
  visit_more j s there quiet out outs i d t m phased waits = one_more (step.visits (record {
    j = j;
    s = s;
    is_seat = there;
    out = out;
    are_out = outs;
    i = i;
    c = d;
    t = t;
    may = m;
    cells_are = refl;
    seats_are = refl;
  })) quiet phased after.ledger after.there (in_step_append size (map did (alones_acts m.before)) _ (due_in size c.ledger) (due_in size c.ledger) (due_in size after.ledger) (still_due _ (alones_still m.before))
      (in_step_append size (visit_anonymous_acts v out m.visit m.old m.begun d m.ended m.happens) (map did (alones_acts m.after)) (due_in size c.ledger) (due_in size after.ledger) (due_in size after.ledger) after.closes
      (still_in_step size (pending_in after.ledger == size) (pending_in after.ledger) (map did (alones_acts m.after)) (alones_still m.after))))
    where
      its_cell : get_elem? cells i ≡ some m.old
      its_cell = (subst (OutsAreIn cells) m.is_out outs).0

      after : LedgerAfter size cells i d c.ledger (visit_anonymous_acts v out m.visit m.old m.begun d m.ended m.happens)
      after = visit_in_step v size some_size cells since.stands.catalog c.ledger (subst (λ (l : LedgerCell). AreCells cells since.stands.catalog l) (sym ledger_is) since.stands.are_cells) sized out i m.visit m.old m.begun d m.ended its_cell waits m.happens

  -- one that stays inside a statement
  pub visit_inside : (j : ℕ) (s : SeatState) → get_elem? seats j ≡ some s → InactiveExcept seats j → (out : List (ℕ × Cell)) → OutsAreIn cells out → (i : ℕ) (d : Cell) (t : SeatState) → (m : AllowedVisit v s out i d t)
      → StaysInside m → Waits size c.ledger m.visit
      → SequentialRunBehind start phase names lines (slice_set cells i d) (slice_set seats j t)
  visit_inside j s there quiet out outs i d t m inside waits = let p = may_inside m inside in
      subst₂ (λ (ns : List Text) (ls : List InputLine). SequentialRunBehind start phase ns ls (slice_set cells i d) (slice_set seats j t))
      (ap (λ (ns : List Text). names ++ ns) (plain_names (may_anonymous_acts m) p.1) ∙ append-nil names)
      (ap (λ (ls : List InputLine). lines ++ ls) p.0 ∙ append-nil lines)
      (visit_more j s there quiet out outs i d t m (plain_phase phase (may_anonymous_acts m) p.1) waits)

-- ---- with several steps alone

-- ---- with many steps

module _ {v : Server} {database : Text} {size : ℕ} {past : Past} {start : RunStart v database size past} {phase : Phase} {names : List Text} {lines : List InputLine} {cells : List Cell} {seats : List SeatState} (c : SequentialRunBehind start phase names lines cells seats)
    (j : ℕ) (s : SeatState) (there : get_elem? seats j ≡ some s) (quiet : InactiveExcept seats j) where
  pub alones_more : (t : SeatState) (steps : Alones v s t) → Each (InPhase phase) (map did (alones_acts steps))
      → SequentialRunBehind start phase (names ++ names_begun (map did (alones_acts steps))) (lines ++ alones_lines steps) cells (slice_set seats j t)
  alones_more _ none phased = subst₂ (λ (ns : List Text) (ls : List InputLine). SequentialRunBehind start phase ns ls cells (slice_set seats j s)) (sym (append-nil names)) (sym (append-nil lines))
      (subst (λ (us : List SeatState). SequentialRunBehind start phase names lines cells us) (sym (set_same seats j s there)) c)
  alones_more _ (more {t} {u} first last) phased = let p = each_left (InPhase phase) (alones_acts first) (alone_acts last) phased in
      let before = alones_more t first p.0 in
      let after = alone_more before j t u (set_here seats j t s there) (still_inactive seats j t quiet) last p.1 in
      subst₂ (λ (ns : List Text) (us : List SeatState). SequentialRunBehind start phase ns (lines ++ (alones_lines first ++ alone_lines last)) cells us)
      (append_assoc names (names_begun (map did (alones_acts first))) (names_begun (map did (alone_acts last)))
      ∙ ap (λ (ns : List Text). names ++ ns) (sym (more_names (map did (alones_acts first)) (map did (alone_acts last))) ∙ ap names_begun (sym (acts_append (alones_acts first) (alone_acts last)))))
      (set_again seats j t u)
      (subst (λ (ls : List InputLine). SequentialRunBehind start phase ((names ++ names_begun (map did (alones_acts first))) ++ names_begun (map did (alone_acts last))) ls cells (slice_set (slice_set seats j t) j u)) (append_assoc lines (alones_lines first) (alone_lines last)) after)

-- ---- a full block is closed

module _ {v : Server} {database : Text} {size : ℕ} {past : Past} {start : RunStart v database size past} {phase : Phase} {names : List Text} {lines : List InputLine} {cells : List Cell} {seats : List SeatState} (c : SequentialRunBehind start phase names lines cells seats) where
  pub close_more : (j : ℕ) (s : SeatState) → get_elem? seats j ≡ some s → InactiveExcept seats j → (l : LedgerCell) → get_elem? cells ledger_at ≡ some (Ledger l) → pending_in l ≡ size → (k : ℕ) (d : LedgerCell) → Closes v k l d
      → SequentialRunBehind start phase names lines (slice_set cells ledger_at (Ledger d)) seats
  close_more j s there quiet l lies is_full k d closes = subst (λ (us : List SeatState). SequentialRunBehind start phase names lines (slice_set cells ledger_at (Ledger d)) us) (set_same seats j s there)
      (visit_inside c j s there quiet ((ledger_at, Ledger l) ∷ []) (lies, tt) ledger_at (Ledger d) s one (record { before = tt; after = tt }) (ap (λ (x : LedgerCell). pending_in x) same ∙ is_full))
    where
      same : c.ledger ≡ l
      same = cell_same c.ledger l (sym c.there ∙ lies)

      one : AllowedVisit v s ((ledger_at, Ledger l) ∷ []) ledger_at (Ledger d) s
      one = record {
        visit = visit.close k;
        old = Ledger l;
        rest = [];
        is_out = refl;
        begun = s;
        before = none;
        ended = s;
        happens = (closes, refl);
        after = none;
      }

-- ---- a seat more, with a session that begins

module _ {v : Server} {database : Text} {size : ℕ} {past : Past} {start : RunStart v database size past} {phase : Phase} {names : List Text} {lines : List InputLine} {cells : List Cell} {seats : List SeatState} (c : SequentialRunBehind start phase names lines cells seats) where
  abbrev new_seat : SeatState → Text → SeatState
  new_seat parent name = sits (split parent 1) (alone.new_session name (split parent 1))

  starts_in : (name : Text) → Each (InPhase phase) (did (starts name) ∷ [])
  starts_in name = by phase
    where
      by : (p : Phase) → Each (InPhase p) (did (starts name) ∷ [])
      by running = (tt, tt)
      by ending = (tt, tt)

  pub session_more : (parent : SeatState) → get_elem? seats 0 ≡ some parent → parent.present ≡ true → ((k : ℕ) (s : SeatState) → get_elem? seats k ≡ some s → IsInactive s.role) → (name : Text)
      → SequentialRunBehind start phase (names ++ name ∷ []) lines cells (seats ++ new_seat parent name ∷ [])
  session_more parent there present quiet name = subst₂ (λ (ls : List InputLine) (us : List SeatState). SequentialRunBehind start phase (names ++ name ∷ []) ls cells us) (append-nil lines) (last_set seats (split parent 1) (new_seat parent name)) begun
    where
      split_off : SequentialRunBehind start phase (names ++ []) (lines ++ []) cells (slice_set seats 0 (kept parent 1) ++ split parent 1 ∷ [])
      split_off = one_more c (step.splits 0 1 parent there refl refl) tt tt c.ledger c.there refl

      with_seat : SequentialRunBehind start phase names lines cells (seats ++ split parent 1 ∷ [])
      with_seat = subst₂ (λ (ns : List Text) (ls : List InputLine). SequentialRunBehind start phase ns ls cells (seats ++ split parent 1 ∷ [])) (append-nil names) (append-nil lines)
          (subst (λ (us : List SeatState). SequentialRunBehind start phase (names ++ []) (lines ++ []) cells (us ++ split parent 1 ∷ [])) (set_same seats 0 parent there) split_off)

      begun : SequentialRunBehind start phase (names ++ name ∷ []) (lines ++ []) cells (slice_set (seats ++ split parent 1 ∷ []) (length seats) (new_seat parent name))
      begun = alone_more with_seat (length seats) (split parent 1) (new_seat parent name) (last_there seats (split parent 1)) (λ k s ne e. quiet k s (before_last seats (split parent 1) s k ne e)) (alone.begins name present refl) (starts_in name)

-- ---- sessions end

pub ends_now : {v : Server} {database : Text} {size : ℕ} {past : Past} {start : RunStart v database size past} {names : List Text} {lines : List InputLine} {cells : List Cell} {seats : List SeatState} → SequentialRunBehind start running names lines cells seats → SequentialRunBehind start ending names lines cells seats
ends_now c = record {
  steps = c.steps;
  one_by_one = c.one_by_one;
  begun = c.begun;
  taken_up = c.taken_up;
  came_so = record { before = steps_anonymous_acts c.steps; after = []; are = sym (append-nil (steps_anonymous_acts c.steps)); none_ended = c.came_so; none_taken = tt };
  ledger = c.ledger;
  there = c.there;
  closes = c.closes;
}
