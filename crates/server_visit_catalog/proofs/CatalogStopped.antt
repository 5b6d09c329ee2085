-- A statement that doesn't get its lock in the catalog, and one that gives it back.
use Rattle.std.proofs.Common.{◌≡◌, ℕ, ◌+◌, ◌≤◌, true, false, List, [], Some, None, length, map, refl, sym, ap, ◌∙◌, subst}
use Rattle.std.proofs.lemmas.List.{append-nil}
use Rattle.sql_value.specs.declared.refusal.Refusal.{Refusal}
use Rattle.sql_types.specs.declared.lock.Hold.{Hold}
use Rattle.sql_types.specs.declared.lock.LockRequest.{LockRequest}
use Rattle.sql_types.specs.declared.reply.Reply.{Reply}
use Rattle.sql_types.specs.declared.reply.Reply.TheVariants as reply
use Rattle.spec_model.specs.Holds.{released}
use Rattle.spec_model.specs.Locks.{catalog_request}
use Rattle.server_session.specs.Acts.{SessionAct}
use Rattle.server_session.specs.Lists.{Text, Each}
use Rattle.server_session.specs.ActsOf.{failed_in}
use Rattle.server_session.specs.CatalogVisits.{with_holds}
use Rattle.server_session.specs.Cells.{CatalogCell}
use Rattle.server_session.specs.AnonymousActs.{stopped_acts}
use Rattle.server_session.specs.Doing.{Stopped, blocked, no_memory}
use Rattle.server_session.specs.Moves.{sits, then_at}
use Rattle.server_session.specs.Seats.{answering, inside, SeatState}
use Rattle.server_session.specs.Visits.{give_back, stop_in_catalog}
use Rattle.server_session.specs.RequestsIn.{of_catalog}
use Rattle.server_session.specs.Represents.{Represents}
use Rattle.server_session.specs.Stages.{stopped_stage}
use Rattle.server_session.specs.KeptCell.{catalog_seen}
use Rattle.server_session.specs.Needs.{stage_visits}
use Rattle.server_session.specs.Sits.{Sits, left_of, line_of, said_at, stage_seen}
use Rattle.server_session.specs.Steps.{Among, IsVisit}
use Rattle.server_session.specs.SessionOutput.{IsPlain, plainly}
use Rattle.server_session.specs.declared.running.Running.{Running}
use Rattle.server_session.specs.declared.seat.Seat.{Seat}
use Rattle.server_session.specs.declared.stage.ControlPoint.TheVariants.{Inside}
use Rattle.server_session.specs.declared.stage.Stage.{Stage}
use Rattle.server_session.specs.declared.stage.Stage.TheVariants.{GivingBack, Looking}
use Rattle.server_session.proofs.Alone.{then_seat, adds_at, failed_plain}
use Rattle.server_session.proofs.Sitting.{plain_anonymous_acts, sits_at, visits_once}
use Rattle.server_visit_catalog.proofs.CatalogSitting.{IsIn, open_at_stage, running_still, script_now, end_few}

stopped_plain : {holds : List Hold} {id : ℕ} {requests : List LockRequest} {r : Reply} (k : Stopped holds id requests r) (text : Text) (fail : List SessionAct) → Each IsPlain fail → Each IsPlain (stopped_acts k text fail)
stopped_plain (blocked c first) text fail p = (tt, tt)
stopped_plain no_memory text fail p = p

module _ {H : Type 0} (digest : H → List ℕ → List ℕ) (y : Seat H) (c d : CatalogCell) (a : Among digest y (catalog_seen c)) (stage : Stage) (i : IsIn digest y c a stage)
    (q : Running H) (p : Represents digest a.h q.context i.o) (script : q.script ≡ i.r.script) (explicit : q.explicit ≡ i.r.explicit) (end : q.end ≡ i.r.end) (left : q.visited.left ≡ i.r.visited.left) (unsaid : said_at (Inside stage) y.text ≡ []) (e : Refusal) where
  abbrev z : Seat H
  z = then_seat y y.started y.text y.stmt (Some q) (Inside (stopped_stage e))

  abbrev t : SeatState
  t = then_at a.s (open_at_stage digest y c a stage i).stands (Some i.o) (answering (reply.Refused e) None)

  sits_stopped : Sits digest a.h z t
  sits_stopped = sits_at digest a.h y a.s a.sits (Some q) (Some i.o) (stopped_stage e) (running_still digest y c a stage i q p explicit end left)
      (λ free. script_now digest y c a stage i q script unsaid ∙ sym (append-nil (map line_of q.script.items))) (λ said. absurd (let no : false ≡ true = said in cc)) (λ free. refl, λ own. refl)

  -- it doesn't get its lock
  pub stops : stage ≡ Looking → Stopped c.holds i.o.id (of_catalog (catalog_request i.o.explicit i.stmt)) (reply.Refused e) → d ≡ c → IsVisit digest y (catalog_seen c) a (catalog_seen d) z
  stops at stopped cell = visits_once digest y (catalog_seen c) a (catalog_seen d) z t stop_in_catalog
      (λ out. (
        record {
          o = i.o;
          at = open_at_stage digest y c a stage i;
          at_begin = ap (λ (u : Stage). stage_seen u (left_of y.running)) at;
          r = reply.Refused e;
          stopped = stopped;
          seat = refl;
        },
        cell,
      ))
      (λ out. plainly (plain_anonymous_acts (stopped_acts stopped y.text (failed_in a.v.meaning (Some i.o) y.text)) (stopped_plain stopped y.text (failed_in a.v.meaning (Some i.o) y.text) (failed_plain a.v.meaning (Some i.o) y.text))) refl)
      sits_stopped [] tt (adds_at a.s a.sits.x (Some i.o) (inside y.text (answering (reply.Refused e) None)) a.sits.role) tt

  -- it gives its lock back
  pub gives_back : stage ≡ GivingBack e → d ≡ with_holds (released c.holds i.o.id) c → IsVisit digest y (catalog_seen c) a (catalog_seen d) z
  gives_back at cell = visits_once digest y (catalog_seen c) a (catalog_seen d) z t give_back
      (λ out. record {
        o = i.o;
        at = open_at_stage digest y c a stage i;
        refusal = e;
        refused = ap (λ (u : Stage). stage_seen u (left_of y.running)) at;
        cell = cell;
        seat = refl;
      })
      (λ out. plainly tt refl)
      sits_stopped [] tt (adds_at a.s a.sits.x (Some i.o) (inside y.text (answering (reply.Refused e) None)) a.sits.role) tt

-- no more visits are left than before
pub stopped_few : {H : Type 0} (e : Refusal) (q r : Running H) → q.visited.left ≡ r.visited.left → stage_visits (stopped_stage e) (Some q) ≤ length r.visited.left + 1
stopped_few e q r left = subst (λ (l : List ℕ). stage_visits (stopped_stage e) (Some q) ≤ length l + 1) left (end_few q.explicit q.end q.visited.left)
