-- Drawing an id is a visit of the ledger's cell.
use Rattle.std.proofs.Common.{◌≡◌, ◌<◌, ◌+◌, ℕ, Bool, true, false, List, [], ◌++◌, Option, Some, None, length, map, reverse, refl, sym, ap, ◌∙◌, subst, subst₂, inl, arith}
use Rattle.sql_value.specs.declared.refusal.Refusal.TheVariants.{NoMemory}
use Rattle.sql_types.specs.declared.reply.Reply.{Reply}
use Rattle.sql_types.specs.declared.reply.Reply.TheVariants as reply
use Rattle.sql_types.specs.declared.statement.Stmt.{Stmt}
use Rattle.server_session.specs.Blocks.{no_hash, last_hash}
use Rattle.server_session.specs.Lists.{Text}
use Rattle.server_session.specs.Transactions.{unfixed}
use Rattle.server_session.specs.Alone.{IsUnfixed}
use Rattle.server_session.specs.Cells.{LedgerCell, pending_in}
use Rattle.server_session.specs.LedgerVisits.{drawn, stage_with_id, AssignsIdFor}
use Rattle.server_session.specs.Moves.{new_transaction, at_place, sits, InStatement, then_at}
use Rattle.server_session.specs.Seats.{OpenTransaction, inside, SeatState}
use Rattle.server_session.specs.Visits.{assign_id}
use Rattle.store_ledger.specs.HashedCell.{HashedCell}
use Rattle.server_visit_ledger.specs.AssigningId.{assigned_id_stage}
use Rattle.server_visit_ledger.specs.Drew.{Drew, IsNew}
use Rattle.server_visit_ledger.specs.LedgerSeen.{ledger_seen}
use Rattle.server_session.specs.Stages.{unsaid}
use Rattle.server_visit_ledger.specs.LedgerMoves.{work_of, stage_work, moved, IsIdOf, HasAssignedId, VisitsOn}
use Rattle.server_session.specs.Needs.{point_visits, stage_visits, answer_visits, end_visits}
use Rattle.server_session.specs.ControlPoints.{IsSamePhase, IsBegunAt}
use Rattle.server_session.specs.Sits.{Sits, Runs, OfStmt, IsStage, line_of}
use Rattle.server_session.specs.Steps.{Among, IsVisit}
use Rattle.server_session.specs.SessionOutput.{plainly}
use Rattle.sql_types.specs.declared.end_line.EndLine.{EndLine}
use Rattle.server_visit_ledger.specs.declared.ledger_work.LedgerWork.TheVariants as work
use Rattle.server_session.specs.declared.running.Running.{Running}
use Rattle.server_session.specs.declared.seat.Seat.{Seat}
use Rattle.server_session.specs.declared.stage.ControlPoint.{ControlPoint}
use Rattle.server_session.specs.declared.stage.ControlPoint.TheVariants.{Between, Inside, Leaving, Over}
use Rattle.server_session.specs.declared.stage.Stage.{Stage}
use Rattle.server_session.specs.declared.stage.Stage.TheVariants.{Begun, AssigningId, Committing, RollingBack, Issuing, Keeping, Looking, Found, Made, LacksIndex, GoingBack, Replied, GivingBack, Answering as Answered}
use Rattle.server_session.proofs.Alone.{adds_at}
use Rattle.server_visit_ledger.proofs.Ledger.{free_end, none_runs, lacks_at}
use Rattle.server_session.proofs.Sitting.{stmt_found, staged, in_statement, sits_at, visits_once, visits_alone}

-- ---- it draws

assign_id_stage : (stage : Stage) (explicit : Bool) → stage_work stage ≡ work.AssignId explicit → Inside stage ≡ Inside (AssigningId explicit)
assign_id_stage (AssigningId b) explicit e = let same : b ≡ explicit = cc in ap (λ (b : Bool). Inside (AssigningId b)) same
assign_id_stage Begun explicit e = cc
assign_id_stage Committing explicit e = cc
assign_id_stage RollingBack explicit e = cc
assign_id_stage Issuing explicit e = cc
assign_id_stage Keeping explicit e = cc
assign_id_stage Looking explicit e = cc
assign_id_stage (Found def part fresh) explicit e = cc
assign_id_stage (Made def indexed) explicit e = cc
assign_id_stage (LacksIndex def) explicit e = cc
assign_id_stage (GoingBack seq passed) explicit e = cc
assign_id_stage (Replied r) explicit e = cc
assign_id_stage (GivingBack r) explicit e = cc
assign_id_stage (Answered r) explicit e = cc

assign_id_point : (p : ControlPoint) (explicit : Bool) → work_of p ≡ work.AssignId explicit → p ≡ Inside (AssigningId explicit)
assign_id_point Between explicit e = cc
assign_id_point (Inside stage) explicit e = assign_id_stage stage explicit e
assign_id_point Leaving explicit e = cc
assign_id_point Over explicit e = cc

nothing_left : (left : List ℕ) → [] ≡ reverse [] ++ left → left ≡ []
nothing_left left e = sym e

not_begun : (explicit : Bool) (id : ℕ) → IsBegunAt (Inside (assigned_id_stage explicit id)) → ⊥
not_begun true id k = k
not_begun false id k = k

-- ---- where it stands then

module _ {H : Type 0} (digest : H → List ℕ → List ℕ) (y : Seat H) (c d : HashedCell) (explicit : Bool) (at : y.point ≡ Inside (AssigningId explicit)) where
  -- with the transaction that it got
  module _ (r : Running H) where
    seat_with : (h : H) (s : SeatState) (w : Sits digest h y s) (b : Bool) (id : ℕ) → id ≡ c.cell.next → IsNew digest h c.cell.next b r → OfStmt (AssignsIdFor b) y.stmt
        → Sits digest h (moved y (Some r) (Inside (assigned_id_stage b id))) (sits s (at_place (Some (new_transaction c.cell.next b)) (inside y.text (stage_with_id b c.cell.next)) w.x))
    seat_with h s w true id is new st = subst
        (λ (n : ℕ). Sits digest h (moved y (Some r) (Inside (assigned_id_stage true n))) (sits s (at_place (Some (new_transaction c.cell.next true)) (inside y.text (stage_with_id true c.cell.next)) w.x)))
        (sym is)
        (sits_at digest h y s w (Some r) (Some (new_transaction c.cell.next true)) (assigned_id_stage true c.cell.next) new.runs
        (λ f. sym (ap (λ (ls : List (Text × Reply)). map line_of ls ++ []) new.script)) (λ e. absurd cc) ((λ f. refl), (λ f. refl)))
    seat_with h s w false id is new st = sits_at digest h y s w (Some r) (Some (new_transaction c.cell.next false)) Looking new.runs
        (λ f. sym (ap (λ (ls : List (Text × Reply)). map line_of ls ++ []) new.script)) (λ m. absurd (let no : false ≡ true = sym new.runs.explicit ∙ m in cc))
        (record { goes_on = refl; runs = st; new = λ f. refl })

    fewer : (h : H) (b : Bool) (id : ℕ) → IsNew digest h c.cell.next b r → stage_visits (assigned_id_stage b id) (Some r) < 8
    fewer h true id new = subst₂ (λ (b : Bool) (l : Option EndLine). end_visits b l r.visited.left < 8) (sym new.runs.explicit)
        (sym (free_end c.cell.next r.end unfixed new.runs.end refl)) (omega arith)
    fewer h false id new = subst (λ (left : List ℕ). length left + 6 < 8) (sym (nothing_left r.visited.left new.runs.visited)) (omega arith)

    visit_with : (id : ℕ) → IsIdOf digest id r → (d.cell ≡ drawn c.cell) × (d.hash ≡ c.hash) × IsNew digest y.hasher c.cell.next explicit r
        → (a : Among digest y (ledger_seen c)) → IsVisit digest y (ledger_seen c) a (ledger_seen d) (moved y (Some r) (Inside (assigned_id_stage explicit id)))
    visit_with id is_id drew a = let p : InStatement a.v a.s = in_statement digest a.h y a.s a.sits a.v a.serves (AssigningId explicit) at st.0 st.1 in
        visits_once digest y (ledger_seen c) a (ledger_seen d) (moved y (Some r) (Inside (assigned_id_stage explicit id)))
        (then_at a.s p (Some (new_transaction c.cell.next explicit)) (stage_with_id explicit c.cell.next)) (assign_id explicit)
        (λ out. record { stands = p; at_begin = refl; none_open = here.0; assigns_id_for = st.2; cell = drew.0; seat = refl })
        (λ out. plainly (tt, tt) (ap (λ (k : LedgerCell). pending_in k) drew.0))
        (seat_with a.h a.s a.sits explicit id (is_id a.h (new_transaction c.cell.next explicit) new.runs.context) new here.1)
        [] tt (adds_at a.s a.sits.x (Some (new_transaction c.cell.next explicit)) (inside y.text (stage_with_id explicit c.cell.next)) a.sits.role)
        (drew.1 ∙ a.keeps ∙ ap (λ (k : LedgerCell). last_hash (digest a.h) no_hash k.chain.blocks) (sym drew.0))
      where
        here : IsStage (AssigningId explicit) y.stmt a.sits.x.open_one y.images
        here = staged digest a.h y a.s a.sits (AssigningId explicit) at y.stmt refl a.sits.x.open_one refl

        st : (st : Stmt) × (y.stmt ≡ Some st) × AssignsIdFor explicit st
        st = stmt_found (AssignsIdFor explicit) y.stmt here.1

        new : IsNew digest a.h c.cell.next explicit r
        new = subst (λ (h : H). IsNew digest h c.cell.next explicit r) a.sits.hasher drew.2

  free_there : (o : Option OpenTransaction) → IsStage (AssigningId explicit) y.stmt o y.images → IsUnfixed o
  free_there None k = tt
  free_there (Some o) k = let no : Some o ≡ None = k.0 in cc

  assigns_id_at : (q : Option (Running H)) (z : Seat H) → Drew digest y.hasher explicit c d q → HasAssignedId digest explicit q y z → Among digest y (ledger_seen c) → VisitsOn digest y (ledger_seen c) (ledger_seen d) z
  assigns_id_at (Some r) z drew has a = subst (VisitsOn digest y (ledger_seen c) (ledger_seen d)) (sym has.2) (record {
    visits = λ b. visit_with r has.0 has.1 drew b;
    comes_on = inl (subst (λ (p : ControlPoint). stage_visits (assigned_id_stage explicit has.0) (Some r) < point_visits p y.running) (sym at) (fewer r y.hasher explicit has.0 drew.2));
    stays = record { point = subst (λ (p : ControlPoint). IsSamePhase p (Inside (assigned_id_stage explicit has.0))) (sym at) tt; begun = λ k. absurd (not_begun explicit has.0 k); started = refl; name = refl; text = refl };
  })
  assigns_id_at None z drew has a = subst₂ (λ (k : HashedCell) (u : Seat H). VisitsOn digest y (ledger_seen c) (ledger_seen k) u) (sym drew) (sym has) (record {
    visits = visits_alone digest y (ledger_seen c) (moved y y.running (Inside (unsaid (reply.Refused NoMemory)))) (lacks_at digest y (AssigningId explicit) at (λ left. refl) refl free_there);
    comes_on = inl (subst₂ (λ (p : ControlPoint) (q : Option (Running H)). answer_visits q < point_visits p y.running) (sym at) (sym nobody) (omega arith));
    stays = record { point = subst (λ (p : ControlPoint). IsSamePhase p (Inside (unsaid (reply.Refused NoMemory)))) (sym at) tt; begun = λ k. absurd k; started = refl; name = refl; text = refl };
  })
    where
      nobody : y.running ≡ None
      nobody = none_runs digest a.h y.running (subst (Runs digest a.h y.running) (staged digest a.h y a.s a.sits (AssigningId explicit) at y.stmt refl a.sits.x.open_one refl).0 a.sits.runs)

pub assigns_id : {H : Type 0} (digest : H → List ℕ → List ℕ) (y z : Seat H) (c d : HashedCell) (explicit : Bool) (q : Option (Running H)) → work_of y.point ≡ work.AssignId explicit
    → Drew digest y.hasher explicit c d q → HasAssignedId digest explicit q y z → Among digest y (ledger_seen c) → VisitsOn digest y (ledger_seen c) (ledger_seen d) z
assigns_id digest y z c d explicit q is drew has a = assigns_id_at digest y c d explicit (assign_id_point y.point explicit is) q z drew has a
