-- A seat that needs the ledger's cell: where it stands, and how it is refused for want of memory.
use Rattle.std.proofs.Common.{◌≡◌, ◌≢◌, ℕ, zero, suc, Bool, true, false, List, [], ◌∷◌, ◌++◌, Option, Some, None, length, reverse, refl, sym, ap, ◌∙◌, subst, subst₂, arith}
use Rattle.std.specs.Prelude.{◌==◌, if◌then◌else◌, slice_get}
use lib.ListN.{get_elem?}
use mathlib.Core.Option.{some-injective}
use Rattle.sql_value.specs.declared.refusal.Refusal.TheVariants.{NoMemory}
use Rattle.sql_types.specs.declared.reply.Reply.TheVariants as reply
use Rattle.server_session.specs.Lists.{Each}
use Rattle.server_session.specs.Transactions.{End, unfixed, committed, ended}
use Rattle.server_session.specs.Alone.{no_memory, IsUnfixed}
use Rattle.server_session.specs.Cells.{Ledger, LedgerCell, catalog_at, ledger_at}
use Rattle.server_session.specs.Moves.{at_place, sits}
use Rattle.server_session.specs.Seats.{OpenTransaction, inside, begun, answering, Session}
use Rattle.law_protocol_steps.proofs.LedgerVisit.{lies_there}
use Rattle.store_ledger.specs.HashedCell.{HashedCell, KeepsHash}
use Rattle.server_session.specs.IsEnd.{IsEnd}
use Rattle.server_visit_ledger.specs.LedgerSeen.{ledger_seen}
use Rattle.server_session.specs.Stages.{unsaid}
use Rattle.server_visit_ledger.specs.LedgerMoves.{moved}
use Rattle.server_session.specs.Needs.{point_need, cell_or_done, end_visits}
use Rattle.server_session.specs.Sits.{IsRunning, Runs, IsControlPoint, IsStage, said_at, left_of, stage_seen}
use Rattle.server_session.specs.Steps.{StepsAlone, Among}
use Rattle.server_session.specs.VisitedCells.{AreVisited, not_catalog, next_back}
use Rattle.sql_types.specs.declared.end_line.EndLine.{EndLine}
use Rattle.sql_types.specs.declared.end_line.EndLine.TheVariants.{Committed, Ended}
use Rattle.server_session.specs.declared.need.NextVisit.TheVariants as need
use Rattle.server_session.specs.declared.running.Running.{Running}
use Rattle.server_session.specs.declared.seat.Seat.{Seat}
use Rattle.server_session.specs.declared.stage.ControlPoint.{ControlPoint}
use Rattle.server_session.specs.declared.stage.ControlPoint.TheVariants.{Inside}
use Rattle.server_session.specs.declared.stage.Stage.{Stage}
use Rattle.server_session.proofs.Alone.{placed, scripted, sits_then, script_same, adds_at, one_step, failed_plain, unsaid_room, unsaid_is_answered}

-- ---- cells in which it may have locks

cell_is : (m n : ℕ) → need.Cell m ≡ need.Cell n → m ≡ n
cell_is m n e = cc

none_is_ledger : (is : List ℕ) → AreVisited is → Each (λ i. i ≢ ledger_at) is
none_is_ledger [] v = tt
none_is_ledger (i ∷ []) v = ((λ e. absurd (omega (arith, v, e))), tt)
none_is_ledger (i ∷ j ∷ is) v = ((λ e. absurd (omega (arith, v.0.0, e))), none_is_ledger (j ∷ is) v.2)

each_back : {A : Type 0} (P : A → Type 0) (xs ys : List A) → Each P (xs ++ ys) → Each P ys
each_back P [] ys k = k
each_back P (x ∷ xs) ys k = each_back P xs ys k.1

each_at : {A : Type 0} (P : A → Type 0) (xs : List A) (n : ℕ) (x : A) → Each P xs → slice_get xs n ≡ Some x → P x
each_at P [] n x k e = cc
each_at P (y ∷ ys) zero x k e = let same : y ≡ x = cc in subst P same k.0
each_at P (y ∷ ys) (suc n) x k e = each_at P ys n x k.1 e

-- those that a transaction hasn't released
pub left_not : {H : Type 0} (digest : H → List ℕ → List ℕ) (h : H) (r : Running H) (o : OpenTransaction) → IsRunning digest h r o → Each (λ i. i ≢ ledger_at) r.visited.left
left_not digest h r o run = each_back (λ i. i ≢ ledger_at) (reverse o.released) r.visited.left (subst (Each (λ i. i ≢ ledger_at)) run.visited (none_is_ledger o.visited run.cells))

pub first_not : (left : List ℕ) → Each (λ i. i ≢ ledger_at) left → cell_or_done (slice_get left 0) ≡ need.Cell ledger_at → ⊥
first_not [] k e = cc
first_not (x ∷ xs) k e = k.0 (cell_is x ledger_at e)

pub back_not : (left : List ℕ) (passed : ℕ) → Each (λ i. i ≢ ledger_at) left → cell_or_done (next_back left passed) ≡ need.Cell ledger_at → ⊥
back_not left passed k e = by (slice_get left passed) refl e
  where
    by_cell : (i : ℕ) (b : Bool) → slice_get left passed ≡ Some i → cell_or_done (if b then None else Some i) ≡ need.Cell ledger_at → ⊥
    by_cell i true f g = cc
    by_cell i false f g = each_at (λ i. i ≢ ledger_at) left passed i k f (cell_is i ledger_at g)

    by : (q : Option ℕ) → slice_get left passed ≡ q → cell_or_done (not_catalog q) ≡ need.Cell ledger_at → ⊥
    by None f g = cc
    by (Some i) f g = by_cell i (i == catalog_at) f g

-- ---- transactions

pub free_end : (id : ℕ) (l : Option EndLine) (e : End) → IsEnd id l e → e ≡ unfixed → l ≡ None
free_end id None unfixed k f = refl
free_end id None (committed n) k f = refl
free_end id None (ended n back) k f = refl
free_end id (Some (Committed i place)) unfixed k f = absurd k
free_end id (Some (Ended i after)) unfixed k f = absurd k
free_end id (Some line) (committed n) k f = cc
free_end id (Some line) (ended n back) k f = cc

pub none_runs : {H : Type 0} (digest : H → List ℕ → List ℕ) (h : H) (q : Option (Running H)) → Runs digest h q None → q ≡ None
none_runs digest h None k = refl
none_runs digest h (Some r) k = absurd k

pub ended_visits : (b : Bool) (line : EndLine) (left : List ℕ) → end_visits b (Some line) left ≡ length left
ended_visits true line left = refl
ended_visits false line left = refl

-- ---- the cell that it needs

module _ {H : Type 0} (digest : H → List ℕ → List ℕ) (y : Seat H) (c : HashedCell) (a : Among digest y (ledger_seen c)) where
  pub at_ledger : a.i ≡ ledger_at
  at_ledger = lies_there a.cells a.together.stands.catalog a.together.stands.ledger c.cell a.together.stands.are_cells a.i a.here

  same_cell : (k l : LedgerCell) → Ledger k ≡ Ledger l → k ≡ l
  same_cell k l e = cc

  -- it is the ledger's
  pub is_ledger : c.cell ≡ a.together.stands.ledger
  is_ledger = same_cell c.cell a.together.stands.ledger (some-injective (Ledger c.cell) (Ledger a.together.stands.ledger)
      (sym a.here ∙ ap (get_elem? a.cells) at_ledger ∙ a.together.stands.are_cells.has_ledger))

  pub keeps_there : KeepsHash (digest y.hasher) c
  keeps_there = subst (λ (h : H). KeepsHash (digest h) c) (sym a.sits.hasher) a.keeps

  pub needs_at : (p : ControlPoint) → y.point ≡ p → (r : Option (Running H)) → y.running ≡ r → point_need p r ≡ need.Cell ledger_at
  needs_at p at r is = subst₂ (λ (p : ControlPoint) (r : Option (Running H)). point_need p r ≡ need.Cell ledger_at) at is (a.needs ∙ ap need.Cell at_ledger)

-- ---- want of memory

-- a statement that has visited nothing, or drawn an id alone, is refused with NoMemory
pub lacks_at : {H : Type 0} (digest : H → List ℕ → List ℕ) (y : Seat H) (stage : Stage) → y.point ≡ Inside stage
    → ((left : List ℕ) → stage_seen stage left ≡ begun) → said_at (Inside stage) y.text ≡ []
    → ((o : Option OpenTransaction) → IsStage stage y.stmt o y.images → IsUnfixed o)
    → StepsAlone digest y [] (moved y y.running (Inside (unsaid (reply.Refused NoMemory))))
lacks_at {H} digest y stage at first unsaid_yet free v h s serves w =
    let x : Session = at_place w.x.open_one (inside y.text (answering (reply.Refused NoMemory) None)) w.x in
    one_step digest h v s (sits s x) (moved y y.running (Inside (unsaid (reply.Refused NoMemory))))
    (no_memory w.x y.text (record { role = w.role; here = placed digest h y s w (Inside stage) at ∙ ap (inside y.text) (first (left_of y.running)) })
    (free w.x.open_one (subst (λ (p : ControlPoint). IsControlPoint p y.stmt w.x.open_one y.images) at w.stands)))
    refl (failed_plain v.meaning w.x.open_one y.text)
    (sits_then digest h y s w (sits s x) x y.started y.text y.stmt y.running (Inside (unsaid (reply.Refused NoMemory))) refl refl refl w.moment refl w.reads w.runs
    (script_same (Inside stage) (Inside (unsaid (reply.Refused NoMemory))) y.text y.text y.running w.x.open_one unsaid_yet (scripted digest h y s w (Inside stage) at))
    (unsaid_room y.running) (unsaid_is_answered w.x.open_one))
    (adds_at s w.x w.x.open_one (inside y.text (answering (reply.Refused NoMemory) None)) w.role)
