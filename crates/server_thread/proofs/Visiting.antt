-- A visit of a session is one that its seat may make on the board, with the steps that the board doesn't know yet.
use Rattle.std.proofs.Common.{◌≡◌, ◌<◌, ℕ, suc, List, [], ◌∷◌, ◌++◌, append-nil, map, slice_set, take, refl, sym, ap, subst, ◌∙◌, inr}
use mathlib.Core.Option.{some}
use lib.ListN.{get_elem?}
use Rattle.base_board.specs.Outs as board
use Rattle.spec_history.specs.Lists.{Text}
use Rattle.spec_history.specs.Transcripts.{Entry, statements}
use Rattle.spec_history.proofs.Trace.{each_weaker}
use Rattle.spec_syntax.specs.Text.{statement_of}
use Rattle.spec_protocol.specs.Serves.{Serves}
use Rattle.spec_protocol.specs.Alone.{none}
use Rattle.spec_protocol.specs.Cells.{cell_count}
use Rattle.spec_protocol.specs.Seats.{SeatState}
use Rattle.spec_protocol.specs.StandTogether.{StandTogether}
use Rattle.spec_protocol.specs.Visits.{nothing}
use Rattle.spec_protocol.proofs.Places.{set_here}
use Rattle.server_result.specs.Moments.{IsMoment}
use Rattle.server_board.specs.Laws.{seen_at}
use Rattle.server_board.specs.ServedDatabase.{ServedDatabase, MayVisitServed, StandsOn}
use Rattle.server_board.proofs.Unchanged.{each_there}
use Rattle.server_session.specs.KeptCell.{KeptCell, Keeps}
use Rattle.server_session.specs.Needs.{need_of}
use Rattle.server_session.specs.ControlPoints.{KeepsStatement}
use Rattle.server_session.specs.Steps.{Among, AmongAll, IsVisit, Visits}
use Rattle.server_session.specs.declared.need.NextVisit.TheVariants as need
use Rattle.server_session.specs.declared.seat.Seat.{Seat}
use Rattle.server_engine.specs.declared.session.Session as core
use Rattle.server_thread.specs.Seated.{known_by, says_in, texts_in, under_way, IsAhead, IsSeated}
use Rattle.server_thread.specs.Wrote.{HasLeft, HasWritten, left_of, texts_taken}
use Rattle.server_thread.specs.declared.worker.Job.{Job}
use Rattle.server_thread.specs.declared.worker.Worker.{Worker}
use Rattle.server_engine.specs.Written.{texts_shown}
use Rattle.server_engine.proofs.Holding.{apart_lies, same_shown, seated}
use Rattle.server_thread.proofs.Moments.{cell_not_done, needs_timed}
use Rattle.server_thread.proofs.Seating.{at, seated_on, stays_under_way}
use Rattle.server_thread.proofs.StepsAhead.{may_behind, stand_ahead}
use Rattle.server_engine.proofs.Within.{need_within}

-- ---- one cell is out

pub one_out : {C : Type 0} (out before : List (ℕ × C)) (i : ℕ) (c : C) → out ≡ (i, c) ∷ before → before ≡ [] → out ≡ (i, c) ∷ []
one_out {C} out before i c e none_before = e ∙ ap (λ (l : List (ℕ × C)). (i, c) ∷ l) none_before

pub out_lies : {C : Type 0} (cells : List C) (out before : List (ℕ × C)) (i : ℕ) (c : C) → out ≡ (i, c) ∷ before → board.OutsAreIn cells out → get_elem? cells i ≡ some c
out_lies cells out before i c e stand = (subst (board.OutsAreIn cells) e stand).0

-- ---- the seat among the others

module _ {H C : Type 0} (digest : H → List ℕ → List ℕ) (says : C → ℕ → Type 0) (d : ServedDatabase) (job : Job H C) (serves : Serves (digest job.hasher) statement_of d.server) (y : core.Session H) (n : ℕ) (s : SeatState)
    (ahead : IsAhead digest says d.server (at job y n) s) where
  abbrev now : IsSeated digest says (known_by s) s.written (at job y n) ahead.t
  now = ahead.seated

  abbrev so_far : List Entry
  so_far = now.sits.x.transcript.entries

  -- the cell that it needs is one of those that there are
  pub near : (i : ℕ) → need_of y.seat ≡ need.Cell i → i < cell_count
  near i needs = need_within digest job.hasher y.seat ahead.t now.sits i needs

  -- a visit that stays in the statement takes up no text
  pub same_texts : (z : Seat H) → KeepsStatement y.seat z → statements (so_far ++ []) ++ under_way z.point z.text ≡ take n (texts_in job.statements.now)
  same_texts z stays = ap (λ (es : List Entry). statements es ++ under_way z.point z.text) (append-nil so_far)
      ∙ ap (λ (ts : List Text). statements so_far ++ ts) (stays_under_way y.seat.point z.point z.text stays.point ∙ ap (under_way y.seat.point) stays.text) ∙ now.texts

  module _ (cells : List KeptCell) (seats : List SeatState) (j : ℕ) (stands : StandsOn (λ (c : KeptCell). c.cell) Keeps d cells seats) (there : get_elem? seats j ≡ some s) where
    -- behind the seat of the past
    abbrev pub seats_ahead : List SeatState
    seats_ahead = slice_set (stands.start.begins.seat ∷ seats) (suc j) ahead.t

    pub together_ahead : StandTogether d.server (map (λ (c : KeptCell). c.cell) cells) seats_ahead
    together_ahead = stand_ahead d.server (map (λ (c : KeptCell). c.cell) cells) (stands.start.begins.seat ∷ seats) stands.together (suc j) s ahead.t there ahead.steps

    pub keeps_there : (i : ℕ) (c : KeptCell) → get_elem? cells i ≡ some c → Keeps d.server.hash c
    keeps_there i c here = each_there (Keeps d.server.hash) cells stands.kept i c here

    abbrev pub among : (i : ℕ) → need_of y.seat ≡ need.Cell i → (c : KeptCell) → get_elem? cells i ≡ some c → Among digest y.seat c
    among i needs c here = record {
      h = job.hasher;
      v = d.server;
      serves = serves;
      cells = map (λ (c : KeptCell). c.cell) cells;
      seats = seats_ahead;
      together = together_ahead;
      i = i;
      needs = needs;
      here = seen_at (λ (c : KeptCell). c.cell) cells i c here;
      keeps = subst (λ (h : List ℕ → List ℕ). Keeps h c) serves.hash (keeps_there i c here);
      j = suc j;
      s = ahead.t;
      there = set_here (stands.start.begins.seat ∷ seats) (suc j) ahead.t s there;
      sits = now.sits;
    }

    abbrev pub among_all : need_of y.seat ≡ need.All → AmongAll digest y.seat cells
    among_all needs = record {
      h = job.hasher;
      v = d.server;
      serves = serves;
      seats = seats_ahead;
      together = together_ahead;
      needs = needs;
      j = suc j;
      s = ahead.t;
      there = set_here (stands.start.begins.seat ∷ seats) (suc j) ahead.t s there;
      sits = now.sits;
    }

    module _ (i : ℕ) (needs : need_of y.seat ≡ need.Cell i) (c e : KeptCell) (here : get_elem? cells i ≡ some c) (z : Seat H) (visits : Visits digest y.seat c e z) (stays : KeepsStatement y.seat z) where
      abbrev visited : IsVisit digest y.seat c (among i needs c here) e z
      visited = visits (among i needs c here)

      time : IsMoment (says_in says job) y.seat.started
      time = needs_timed (says_in says job) y.seat (need.Cell i) needs (cell_not_done i) now.timed

      pub visit_seated : IsSeated digest says (known_by s) s.written (at job (seated y z) n) visited.t
      visit_seated = let lies = apart_lies y.seat.point z.point y.answer y.seat.running z.running stays.point now.answer in
          seated_on digest says (known_by s) s.written job y (seated y z) n n ahead.t visited.t now visited.sits [] [] visited.moments visited.adds stays.name (same_texts z stays)
          (same_shown y (seated y z) lies.0 stays.name refl refl refl ∙ sym (append-nil (texts_shown y))) lies.1 now.last (append-nil y.images)
          (each_weaker (λ (m : ℕ). m ≡ y.seat.started) (IsMoment (says_in says job)) (λ m e. subst (IsMoment (says_in says job)) (sym e) time) visited.moments visited.at_start)
          (inr (subst (IsMoment (says_in says job)) (sym stays.started) time))

      pub may_visit : MayVisitServed (λ (c : KeptCell). c.cell) Keeps d s ((i, c) ∷ []) i e visited.t
      may_visit = record {
        kept = subst (λ (h : List ℕ → List ℕ). Keeps h e) (sym serves.hash) visited.keeps;
        may = may_behind d.server s ahead.t visited.t ((i, c.cell) ∷ []) i e.cell ahead.steps (visited.may []);
      }

      pub visit_may : (out : List (ℕ × KeptCell)) → out ≡ (i, c) ∷ [] → (t : SeatState) × MayVisitServed (λ (c : KeptCell). c.cell) Keeps d s out i e t × IsSeated digest says (known_by s) s.written (at job (seated y z) n) t
      visit_may out e_out = (visited.t, subst (λ (o : List (ℕ × KeptCell)). MayVisitServed (λ (c : KeptCell). c.cell) Keeps d s o i e visited.t) (sym e_out) may_visit, visit_seated)

-- ---- the last visit

-- a cell is given back as it was, and the board knows what the seat did since
module _ {H C : Type 0} (says : C → ℕ → Type 0) (d : ServedDatabase) (z : Worker H C) (s : SeatState) (left : HasLeft says d.server z s) where
  pub settle_may : (i : ℕ) (c : KeptCell) → Keeps d.server.hash c → (out : List (ℕ × KeptCell)) → out ≡ (i, c) ∷ []
      → (t : SeatState) × MayVisitServed (λ (c : KeptCell). c.cell) Keeps d s out i c t × HasWritten (says_in says z.job) z.job.name.now (texts_taken z) (left_of z) (known_by s) s.written t
  settle_may i c keeps out e = (
    left.t,
    subst (λ (o : List (ℕ × KeptCell)). MayVisitServed (λ (c : KeptCell). c.cell) Keeps d s o i c left.t) (sym e) (record {
      kept = keeps;
      may = record { visit = nothing; old = c.cell; rest = []; is_out = refl; begun = left.t; before = left.steps; ended = left.t; happens = (refl, refl); after = none };
    }),
    left.wrote,
  )
