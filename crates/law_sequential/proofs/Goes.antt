-- How a course goes on: with each step, with what it adds.
use Rattle.std.proofs.Common.{◌≡◌, ◌≢◌, ℕ, zero, suc, ◌≤◌, Bool, length, true, List, [], ◌∷◌, ◌++◌, map, slice_set, refl, sym, ap, ap₂, subst, subst₂, ◌∙◌, append-nil, append_assoc, arith}
use Rattle.std.specs.Prelude.{◌==◌}
use Rattle.std.proofs.lemmas.Bool.{ne_eqb}
use mathlib.Core.Option.{some, none, some-injective}
use lib.ListN.{get_elem?}
use Rattle.spec_model.specs.Limits.{max_block}
use Rattle.spec_history.specs.Acts.{SessionAct, starts, takes, answers, stops}
use Rattle.spec_history.specs.Histories.{pending, full_or}
use Rattle.spec_history.specs.Inputs.{InputLine}
use Rattle.spec_history.specs.Lists.{Text, Each}
use Rattle.spec_history.proofs.Trace.{each_append, each_weaker}
use Rattle.spec_protocol.specs.Alone.{Alone, Alones, none, more}
use Rattle.spec_protocol.specs.Alone as alone
use Rattle.spec_protocol.specs.ActsOf.{alone_acts}
use Rattle.spec_protocol.specs.Cells.{Cell, Ledger, LedgerCell, AreCells, first_cells, first_ledger, ledger_at, pending_in}
use Rattle.spec_protocol.specs.LedgerVisits.{Closes}
use Rattle.spec_protocol.specs.AnonymousActs.{AnonymousAct, did, alones_acts, visit_anonymous_acts, may_anonymous_acts, step_anonymous_acts, steps_anonymous_acts}
use Rattle.spec_protocol.specs.Follows.{names_begun, alone_lines, alones_lines, may_lines, step_lines}
use Rattle.spec_protocol.specs.AllowedVisit.{AllowedVisit, OutsAreIn, first_seat}
use Rattle.spec_protocol.specs.OneByOne.{IsOneAlone}
use Rattle.spec_protocol.specs.InactiveExcept.{IsInactive, InactiveExcept}
use Rattle.spec_protocol.specs.Moves.{sits}
use Rattle.spec_protocol.specs.Seats.{SeatState, kept, split}
use Rattle.spec_protocol.specs.Visits as visit
use Rattle.spec_protocol.specs.Server.{Server}
use Rattle.spec_protocol.specs.Steps as step
use Rattle.spec_protocol.specs.Steps.{Step}
use Rattle.law_protocol.proofs.LedgerVisit.{the_ledger}
use Rattle.law_protocol.proofs.OneAtATime.{IsPlain}
use Rattle.spec_protocol.proofs.Places.{set_same, set_here, set_else, set_again}
use Rattle.law_protocol.proofs.StepsAlone.{checked_plain, failed_in_plain}
use Rattle.law_protocol.proofs.SinceFirst.{SinceFirst, since_first}
use Rattle.law_protocol.proofs.FollowsSteps.{visit_plain}
use Rattle.law_sequential.specs.SequentialRun.{SequentialRun, IsInside, StaysInside}
use Rattle.law_sequential.specs.EndsLast.{Phase, running, ending, CameSo, InPhase, IsNoEnd, IsNoStatement}
use Rattle.law_sequential.specs.InStep.{InStep, due_in, Waits}
use Rattle.law_sequential.proofs.Calm.{Still, alone_still, alones_still, still_in_step}
use Rattle.law_sequential.proofs.Closes.{in_step_append}
use Rattle.law_sequential.proofs.VisitInStep.{LedgerAfter, visit_in_step}

-- ---- what more deeds add

pub more_names : (xs ys : List AnonymousAct) → names_begun (xs ++ ys) ≡ names_begun xs ++ names_begun ys
more_names [] ys = refl
more_names (did (starts name) ∷ xs) ys = ap (λ (ns : List Text). name ∷ ns) (more_names xs ys)
more_names (d ∷ xs) ys = more_names xs ys

pub came_on : (phase : Phase) (anonymous_acts more_anonymous_acts : List AnonymousAct) → CameSo phase anonymous_acts → Each (InPhase phase) more_anonymous_acts → CameSo phase (anonymous_acts ++ more_anonymous_acts)
came_on running anonymous_acts ds c h = each_append IsNoEnd anonymous_acts ds c h
came_on ending anonymous_acts ds c h = record {
  before = c.before;
  after = c.after ++ ds;
  are = ap (λ (xs : List AnonymousAct). xs ++ ds) c.are ∙ append_assoc c.before c.after ds;
  none_ended = c.none_ended;
  none_taken = each_append IsNoStatement c.after ds c.none_taken h;
}

-- ---- what is done inside a statement

inside_plain : (a : SessionAct) → IsInside a → IsPlain (did a)
inside_plain (starts name) h = absurd h
inside_plain (takes text) h = absurd h
inside_plain (answers entry) h = absurd h
inside_plain stops h = absurd h
inside_plain a h = tt

pub all_plain : (acts : List SessionAct) → Each IsInside acts → Each IsPlain (map did acts)
all_plain [] h = tt
all_plain (a ∷ as_more) h = (inside_plain a h.0, all_plain as_more h.1)

plain_running : (d : AnonymousAct) → IsPlain d → IsNoEnd d
plain_running (did (answers entry)) h = absurd h
plain_running d h = tt

plain_ending : (d : AnonymousAct) → IsPlain d → IsNoStatement d
plain_ending (did (takes text)) h = absurd h
plain_ending d h = tt

pub plain_phase : (phase : Phase) (ds : List AnonymousAct) → Each IsPlain ds → Each (InPhase phase) ds
plain_phase running ds h = each_weaker IsPlain IsNoEnd plain_running ds h
plain_phase ending ds h = each_weaker IsPlain IsNoStatement plain_ending ds h

pub plain_names : (ds : List AnonymousAct) → Each IsPlain ds → names_begun ds ≡ []
plain_names [] h = refl
plain_names (did (starts name) ∷ ds) h = absurd h.0
plain_names (d ∷ ds) h = plain_names ds h.1

one_inside : {v : Server} {s t : SeatState} (how : Alone v s t) → Each IsInside (alone_acts how) → alone_lines how ≡ []
one_inside (alone.takes x text a b) h = absurd h.0
one_inside how h = refl

inside_left : (xs ys : List SessionAct) → Each IsInside (xs ++ ys) → Each IsInside xs × Each IsInside ys
inside_left [] ys h = (tt, h)
inside_left (x ∷ xs) ys h = let r = inside_left xs ys h.1 in ((h.0, r.0), r.1)

pub inside_lines : {v : Server} {s t : SeatState} (how : Alones v s t) → Each IsInside (alones_acts how) → alones_lines how ≡ []
inside_lines none h = refl
inside_lines (more first last) h = let p = inside_left (alones_acts first) (alone_acts last) h in
    ap₂ (λ (ks ls : List InputLine). ks ++ ls) (inside_lines first p.0) (one_inside last p.1)

pub may_inside : {v : Server} {s : SeatState} {out : List (ℕ × Cell)} {i : ℕ} {c : Cell} {t : SeatState} (m : AllowedVisit v s out i c t) → StaysInside m → (may_lines m ≡ []) × Each IsPlain (may_anonymous_acts m)
may_inside {v} {s} {out} {i} {c} m inside = (
  ap₂ (λ (ks ls : List InputLine). ks ++ ls) (inside_lines m.before inside.before) (inside_lines m.after inside.after),
  each_append IsPlain (map did (alones_acts m.before)) _ (all_plain (alones_acts m.before) inside.before)
      (each_append IsPlain (visit_anonymous_acts v out m.visit m.old m.begun c m.ended m.happens) (map did (alones_acts m.after)) (visit_plain v out m.visit m.old m.begun c m.ended m.happens) (all_plain (alones_acts m.after) inside.after)),
)

-- ---- at the beginning

pub sequential_run_begins : (v : Server) (database : Text) (size : ℕ) → 1 ≤ size → size ≤ max_block → SequentialRun v database size running [] [] (first_cells database size) (first_seat (first_cells database size) ∷ [])
sequential_run_begins v database size least most = record {
  some_size = least;
  most_size = most;
  steps = step.none;
  one_by_one = tt;
  begun = refl;
  taken_up = refl;
  came_so = tt;
  ledger = first_ledger database size;
  there = refl;
  closes = none_due size least;
}
  where
    none_due : (n : ℕ) → 1 ≤ n → pending 0 ≡ full_or (0 == n) 0
    none_due n l = sym (ap (λ (b : Bool). full_or b 0) (ne_eqb 0 n (λ e. omega (arith, e, l))))

-- ---- with one step more

module _ {v : Server} {database : Text} {size : ℕ} {phase : Phase} {names : List Text} {lines : List InputLine} {cells : List Cell} {seats : List SeatState} (c : SequentialRun v database size phase names lines cells seats) where
  pub since : SinceFirst v database size cells seats c.steps
  since = since_first v database size c.some_size c.most_size cells seats c.steps

  -- the ledger's cell that lies there is the one that stands
  pub ledger_is : c.ledger ≡ since.later.stands.ledger
  ledger_is = the_ledger cells since.later.stands.catalog since.later.stands.ledger c.ledger since.later.stands.are_cells c.there

  pub sized : c.ledger.block_size ≡ size
  sized = ap (λ (l : LedgerCell). l.block_size) ledger_is ∙ since.same_size

  -- a step that one seat takes, with its deeds and lines
  pub one_more : {then_cells : List Cell} {then_seats : List SeatState} (s : Step v cells seats then_cells then_seats) → IsOneAlone s → Each (InPhase phase) (step_anonymous_acts s)
      → (then_ledger : LedgerCell) → get_elem? then_cells ledger_at ≡ some (Ledger then_ledger) → InStep size (due_in size c.ledger) (step_anonymous_acts s) (due_in size then_ledger)
      → SequentialRun v database size phase (names ++ names_begun (step_anonymous_acts s)) (lines ++ step_lines s) then_cells then_seats
  one_more s one phased then_ledger there closes = record {
    some_size = c.some_size;
    most_size = c.most_size;
    steps = step.more c.steps s;
    one_by_one = (c.one_by_one, one);
    begun = more_names (steps_anonymous_acts c.steps) (step_anonymous_acts s) ∙ ap (λ (ns : List Text). ns ++ names_begun (step_anonymous_acts s)) c.begun;
    taken_up = ap (λ (ls : List InputLine). ls ++ step_lines s) c.taken_up;
    came_so = came_on phase (steps_anonymous_acts c.steps) (step_anonymous_acts s) c.came_so phased;
    ledger = then_ledger;
    there = there;
    closes = in_step_append size (steps_anonymous_acts c.steps) (step_anonymous_acts s) (pending 0) (due_in size c.ledger) (due_in size then_ledger) c.closes closes;
  }

  still_due : (ds : List AnonymousAct) → Each Still ds → InStep size (due_in size c.ledger) ds (due_in size c.ledger)
  still_due ds h = still_in_step size (pending_in c.ledger == size) (pending_in c.ledger) ds h

  pub alone_more : (j : ℕ) (s t : SeatState) → get_elem? seats j ≡ some s → InactiveExcept seats j → (how : Alone v s t) → Each (InPhase phase) (map did (alone_acts how))
      → SequentialRun v database size phase (names ++ names_begun (map did (alone_acts how))) (lines ++ alone_lines how) cells (slice_set seats j t)
  alone_more j s t there quiet how phased = one_more (step.alone j s t there how refl refl) quiet phased c.ledger c.there (still_due (map did (alone_acts how)) (alone_still how))

  pub visit_more : (j : ℕ) (s : SeatState) → get_elem? seats j ≡ some s → InactiveExcept seats j → (out : List (ℕ × Cell)) → OutsAreIn cells out → (i : ℕ) (d : Cell) (t : SeatState) → (m : AllowedVisit v s out i d t)
      → Each (InPhase phase) (may_anonymous_acts m) → Waits size c.ledger m.visit
      → SequentialRun v database size phase (names ++ names_begun (may_anonymous_acts m)) (lines ++ may_lines m) (slice_set cells i d) (slice_set seats j t)
  visit_more j s there quiet out outs i d t m phased waits = one_more (step.visits (record {
    j = j;
    s = s;
    is_seat = there;
    out = out;
    are_out = outs;
    i = i;
    c = d;
    t = t;
    may = m;
    cells_are = refl;
    seats_are = refl;
  })) quiet phased after.ledger after.there (in_step_append size (map did (alones_acts m.before)) _ (due_in size c.ledger) (due_in size c.ledger) (due_in size after.ledger) (still_due _ (alones_still m.before))
      (in_step_append size (visit_anonymous_acts v out m.visit m.old m.begun d m.ended m.happens) (map did (alones_acts m.after)) (due_in size c.ledger) (due_in size after.ledger) (due_in size after.ledger) after.closes
      (still_in_step size (pending_in after.ledger == size) (pending_in after.ledger) (map did (alones_acts m.after)) (alones_still m.after))))
    where
      its_cell : get_elem? cells i ≡ some m.old
      its_cell = (subst (OutsAreIn cells) m.is_out outs).0

      after : LedgerAfter size cells i d c.ledger (visit_anonymous_acts v out m.visit m.old m.begun d m.ended m.happens)
      after = visit_in_step v size c.some_size cells since.later.stands.catalog c.ledger (subst (λ (l : LedgerCell). AreCells cells since.later.stands.catalog l) (sym ledger_is) since.later.stands.are_cells) sized out i m.visit m.old m.begun d m.ended its_cell waits m.happens

  -- one that stays inside a statement
  pub visit_inside : (j : ℕ) (s : SeatState) → get_elem? seats j ≡ some s → InactiveExcept seats j → (out : List (ℕ × Cell)) → OutsAreIn cells out → (i : ℕ) (d : Cell) (t : SeatState) → (m : AllowedVisit v s out i d t)
      → StaysInside m → Waits size c.ledger m.visit
      → SequentialRun v database size phase names lines (slice_set cells i d) (slice_set seats j t)
  visit_inside j s there quiet out outs i d t m inside waits = let p = may_inside m inside in
      subst₂ (λ (ns : List Text) (ls : List InputLine). SequentialRun v database size phase ns ls (slice_set cells i d) (slice_set seats j t))
      (ap (λ (ns : List Text). names ++ ns) (plain_names (may_anonymous_acts m) p.1) ∙ append-nil names)
      (ap (λ (ls : List InputLine). lines ++ ls) p.0 ∙ append-nil lines)
      (visit_more j s there quiet out outs i d t m (plain_phase phase (may_anonymous_acts m) p.1) waits)

-- ---- with several steps alone

pub acts_append : (xs ys : List SessionAct) → map did (xs ++ ys) ≡ map did xs ++ map did ys
acts_append [] ys = refl
acts_append (x ∷ xs) ys = ap (λ (ds : List AnonymousAct). did x ∷ ds) (acts_append xs ys)

pub each_left : (P : AnonymousAct → Type 0) (xs ys : List SessionAct) → Each P (map did (xs ++ ys)) → Each P (map did xs) × Each P (map did ys)
each_left P [] ys h = (tt, h)
each_left P (x ∷ xs) ys h = let r = each_left P xs ys h.1 in ((h.0, r.0), r.1)

pub still_inactive : (seats : List SeatState) (j : ℕ) (t : SeatState) → InactiveExcept seats j → InactiveExcept (slice_set seats j t) j
still_inactive seats j t quiet k s ne e = quiet k s ne (sym (set_else seats j k t ne) ∙ e)

module _ {v : Server} {database : Text} {size : ℕ} {phase : Phase} {names : List Text} {lines : List InputLine} {cells : List Cell} {seats : List SeatState} (c : SequentialRun v database size phase names lines cells seats)
    (j : ℕ) (s : SeatState) (there : get_elem? seats j ≡ some s) (quiet : InactiveExcept seats j) where
  pub alones_more : (t : SeatState) (steps : Alones v s t) → Each (InPhase phase) (map did (alones_acts steps))
      → SequentialRun v database size phase (names ++ names_begun (map did (alones_acts steps))) (lines ++ alones_lines steps) cells (slice_set seats j t)
  alones_more _ none phased = subst₂ (λ (ns : List Text) (ls : List InputLine). SequentialRun v database size phase ns ls cells (slice_set seats j s)) (sym (append-nil names)) (sym (append-nil lines))
      (subst (λ (us : List SeatState). SequentialRun v database size phase names lines cells us) (sym (set_same seats j s there)) c)
  alones_more _ (more {t} {u} first last) phased = let p = each_left (InPhase phase) (alones_acts first) (alone_acts last) phased in
      let before = alones_more t first p.0 in
      let after = alone_more before j t u (set_here seats j t s there) (still_inactive seats j t quiet) last p.1 in
      subst₂ (λ (ns : List Text) (us : List SeatState). SequentialRun v database size phase ns (lines ++ (alones_lines first ++ alone_lines last)) cells us)
      (append_assoc names (names_begun (map did (alones_acts first))) (names_begun (map did (alone_acts last)))
      ∙ ap (λ (ns : List Text). names ++ ns) (sym (more_names (map did (alones_acts first)) (map did (alone_acts last))) ∙ ap names_begun (sym (acts_append (alones_acts first) (alone_acts last)))))
      (set_again seats j t u)
      (subst (λ (ls : List InputLine). SequentialRun v database size phase ((names ++ names_begun (map did (alones_acts first))) ++ names_begun (map did (alone_acts last))) ls cells (slice_set (slice_set seats j t) j u)) (append_assoc lines (alones_lines first) (alone_lines last)) after)

-- ---- steps in which no statement is taken up

one_silent : {v : Server} {s t : SeatState} (how : Alone v s t) → alone_lines how ≡ [] → Each IsNoStatement (map did (alone_acts how))
one_silent (alone.begins name a b) e = (tt, tt)
one_silent (alone.builds a b) e = tt
one_silent (alone.rests a) e = tt
one_silent (alone.takes x text a b) e = cc
one_silent (alone.leaves x o a b c d) e = tt
one_silent (alone.stops x a b) e = (tt, tt)
one_silent (alone.refused_in x o text r a b c d f) e = (tt, tt)
one_silent (alone.refused_out x text r a b c) e = tt
one_silent (alone.refused_checked o at named fresh r a b) e = plain_phase ending _ (checked_plain o.explicit at.stands.text _)
one_silent {v} (alone.no_memory x text a b) e = plain_phase ending _ (failed_in_plain v.meaning x.open_one text)
one_silent (alone.no_memory_then o at named fresh a) e = (tt, tt)
one_silent (alone.saves o at name a b c d) e = (tt, tt)
one_silent (alone.has_too_many o at name a b c d) e = (tt, tt)
one_silent (alone.goes_back o at name f fs a b c d) e = tt
one_silent (alone.has_no_savepoint o at name a b c d) e = (tt, tt)
one_silent (alone.is_back o at seq a) e = (tt, tt)
one_silent (alone.answers x text r a b) e = (tt, tt)
one_silent (alone.answers_end x o text r def line a b c d) e = (tt, (tt, tt))
one_silent (alone.has_left x o line a b c d) e = (tt, (tt, (tt, tt)))

no_lines_left : (xs ys : List InputLine) → xs ++ ys ≡ [] → (xs ≡ []) × (ys ≡ [])
no_lines_left [] ys e = (refl, e)
no_lines_left (x ∷ xs) ys e = absurd (let g : ⊥ = cc in g)

pub all_silent : {v : Server} {s t : SeatState} (steps : Alones v s t) → alones_lines steps ≡ [] → Each IsNoStatement (map did (alones_acts steps))
all_silent none e = tt
all_silent (more first last) e = let p = no_lines_left (alones_lines first) (alone_lines last) e in
    subst (Each IsNoStatement) (sym (acts_append (alones_acts first) (alone_acts last)))
    (each_append IsNoStatement (map did (alones_acts first)) (map did (alone_acts last)) (all_silent first p.0) (one_silent last p.1))

pub may_silent : {v : Server} {s : SeatState} {out : List (ℕ × Cell)} {i : ℕ} {c : Cell} {t : SeatState} (m : AllowedVisit v s out i c t) → may_lines m ≡ [] → Each IsNoStatement (may_anonymous_acts m)
may_silent {v} {s} {out} {i} {c} m e = let p = no_lines_left (alones_lines m.before) (alones_lines m.after) e in
    each_append IsNoStatement (map did (alones_acts m.before)) _ (all_silent m.before p.0)
    (each_append IsNoStatement (visit_anonymous_acts v out m.visit m.old m.begun c m.ended m.happens) (map did (alones_acts m.after)) (plain_phase ending _ (visit_plain v out m.visit m.old m.begun c m.ended m.happens)) (all_silent m.after p.1))

-- ---- a full block is closed

pub cell_same : (a b : LedgerCell) → some (Ledger a) ≡ some (Ledger b) → a ≡ b
cell_same a b e = let f : Ledger a ≡ Ledger b = some-injective (Ledger a) (Ledger b) e in cc

module _ {v : Server} {database : Text} {size : ℕ} {phase : Phase} {names : List Text} {lines : List InputLine} {cells : List Cell} {seats : List SeatState} (c : SequentialRun v database size phase names lines cells seats) where
  pub close_more : (j : ℕ) (s : SeatState) → get_elem? seats j ≡ some s → InactiveExcept seats j → (l : LedgerCell) → get_elem? cells ledger_at ≡ some (Ledger l) → pending_in l ≡ size → (k : ℕ) (d : LedgerCell) → Closes v k l d
      → SequentialRun v database size phase names lines (slice_set cells ledger_at (Ledger d)) seats
  close_more j s there quiet l lies is_full k d closes = subst (λ (us : List SeatState). SequentialRun v database size phase names lines (slice_set cells ledger_at (Ledger d)) us) (set_same seats j s there)
      (visit_inside c j s there quiet ((ledger_at, Ledger l) ∷ []) (lies, tt) ledger_at (Ledger d) s one (record { before = tt; after = tt }) (ap (λ (x : LedgerCell). pending_in x) same ∙ is_full))
    where
      same : c.ledger ≡ l
      same = cell_same c.ledger l (sym c.there ∙ lies)

      one : AllowedVisit v s ((ledger_at, Ledger l) ∷ []) ledger_at (Ledger d) s
      one = record {
        visit = visit.close k;
        old = Ledger l;
        rest = [];
        is_out = refl;
        begun = s;
        before = none;
        ended = s;
        happens = (closes, refl);
        after = none;
      }

-- ---- a seat more, with a session that begins

pub last_there : (seats : List SeatState) (s : SeatState) → get_elem? (seats ++ s ∷ []) (length seats) ≡ some s
last_there [] s = refl
last_there (t ∷ seats) s = last_there seats s

pub last_set : (seats : List SeatState) (s t : SeatState) → slice_set (seats ++ s ∷ []) (length seats) t ≡ seats ++ t ∷ []
last_set [] s t = refl
last_set (u ∷ seats) s t = ap (λ (us : List SeatState). u ∷ us) (last_set seats s t)

pub before_last : (seats : List SeatState) (s u : SeatState) (k : ℕ) → k ≢ length seats → get_elem? (seats ++ s ∷ []) k ≡ some u → get_elem? seats k ≡ some u
before_last [] s u zero ne e = absurd (ne refl)
before_last [] s u (suc k) ne e = e
before_last (t ∷ seats) s u zero ne e = e
before_last (t ∷ seats) s u (suc k) ne e = before_last seats s u k (λ same. ne (ap suc same)) e

module _ {v : Server} {database : Text} {size : ℕ} {phase : Phase} {names : List Text} {lines : List InputLine} {cells : List Cell} {seats : List SeatState} (c : SequentialRun v database size phase names lines cells seats) where
  abbrev new_seat : SeatState → Text → SeatState
  new_seat parent name = sits (split parent 1) (alone.new_session name (split parent 1))

  starts_in : (name : Text) → Each (InPhase phase) (did (starts name) ∷ [])
  starts_in name = by phase
    where
      by : (p : Phase) → Each (InPhase p) (did (starts name) ∷ [])
      by running = (tt, tt)
      by ending = (tt, tt)

  pub session_more : (parent : SeatState) → get_elem? seats 0 ≡ some parent → parent.present ≡ true → ((k : ℕ) (s : SeatState) → get_elem? seats k ≡ some s → IsInactive s.role) → (name : Text)
      → SequentialRun v database size phase (names ++ name ∷ []) lines cells (seats ++ new_seat parent name ∷ [])
  session_more parent there present quiet name = subst₂ (λ (ls : List InputLine) (us : List SeatState). SequentialRun v database size phase (names ++ name ∷ []) ls cells us) (append-nil lines) (last_set seats (split parent 1) (new_seat parent name)) begun
    where
      split_off : SequentialRun v database size phase (names ++ []) (lines ++ []) cells (slice_set seats 0 (kept parent 1) ++ split parent 1 ∷ [])
      split_off = one_more c (step.splits 0 1 parent there refl refl) tt tt c.ledger c.there refl

      with_seat : SequentialRun v database size phase names lines cells (seats ++ split parent 1 ∷ [])
      with_seat = subst₂ (λ (ns : List Text) (ls : List InputLine). SequentialRun v database size phase ns ls cells (seats ++ split parent 1 ∷ [])) (append-nil names) (append-nil lines)
          (subst (λ (us : List SeatState). SequentialRun v database size phase (names ++ []) (lines ++ []) cells (us ++ split parent 1 ∷ [])) (set_same seats 0 parent there) split_off)

      begun : SequentialRun v database size phase (names ++ name ∷ []) (lines ++ []) cells (slice_set (seats ++ split parent 1 ∷ []) (length seats) (new_seat parent name))
      begun = alone_more with_seat (length seats) (split parent 1) (new_seat parent name) (last_there seats (split parent 1)) (λ k s ne e. quiet k s (before_last seats (split parent 1) s k ne e)) (alone.begins name present refl) (starts_in name)

-- ---- sessions end

pub ends_now : {v : Server} {database : Text} {size : ℕ} {names : List Text} {lines : List InputLine} {cells : List Cell} {seats : List SeatState} → SequentialRun v database size running names lines cells seats → SequentialRun v database size ending names lines cells seats
ends_now c = record {
  some_size = c.some_size;
  most_size = c.most_size;
  steps = c.steps;
  one_by_one = c.one_by_one;
  begun = c.begun;
  taken_up = c.taken_up;
  came_so = record { before = steps_anonymous_acts c.steps; after = []; are = sym (append-nil (steps_anonymous_acts c.steps)); none_ended = c.came_so; none_taken = tt };
  ledger = c.ledger;
  there = c.there;
  closes = c.closes;
}
