use Rattle.std.proofs.Common.{◌≡◌, sym, ap, subst, List}
use Rattle.std.specs.Prelude.{Result, IfErr, OnErr, OnOk}
use Rattle.sql_types.specs.declared.lock.Hold.{Hold}
use Rattle.spec_model.specs.Holds.{holds_after}
use Rattle.store_locks.specs.Asked.{asked, IsMeant}
use Rattle.spec_protocol.specs.Cells.{TableCell}
use Rattle.spec_protocol.specs.TableVisits.{with_holds}
use Rattle.store_table.specs.Calls.{IsStopped, LocksTaken}
use Rattle.store_table.specs.declared.stop.TableErr.{TableErr}
use Rattle.store_table.proofs.Asking.{taken, stopped}
use Rattle.store_table.proofs.Whole.{seen}
use Rattle.store_table.proofs.cell.TableCell.lock.Goals as goal

pub returns-clause-ok : goal.returns-clause-ok
returns-clause-ok c =
    let holds = ap (λ (x : TableCell). x.holds) c.self.view_is in
    let after : TableCell = seen c.self.inside.id c.self.inside.store.stored c.ask.new.self in
    subst (λ (r : Result (Unit {0}) TableErr). OnOk r (LocksTaken c.args.self.now c.args.tx c.args.requests.now after)) (sym c.granted_or_err.ensures)
    (taken c.args.self.now c.args.tx c.args.requests.now c.ask.new.self after c.ask.result
    (subst (λ (hs : List Hold). IsMeant (asked hs c.args.tx c.args.requests.now) c.ask.result) holds c.ask.ensures.answer)
    (subst (λ (hs : List Hold). OnOk c.ask.result (c.ask.new.self ≡ holds_after hs c.args.tx c.args.requests.now)) holds c.ask.ensures.ok)
    (ap (λ (x : TableCell). with_holds c.ask.new.self x) c.self.view_is))

pub returns-clause-err : goal.returns-clause-err
returns-clause-err c =
    let holds = ap (λ (x : TableCell). x.holds) c.self.view_is in
    let after : TableCell = seen c.self.inside.id c.self.inside.store.stored c.ask.new.self in
    subst (λ (r : Result (Unit {0}) TableErr). IfErr r (λ stop. IsStopped c.args.self.now c.args.tx c.args.requests.now (λ e. ⊥) stop after)) (sym c.granted_or_err.ensures)
    (stopped c.args.self.now c.args.tx c.args.requests.now c.ask.new.self after c.ask.result
    (subst (λ (hs : List Hold). IsMeant (asked hs c.args.tx c.args.requests.now) c.ask.result) holds c.ask.ensures.answer)
    (subst (λ (hs : List Hold). OnErr c.ask.result (c.ask.new.self ≡ hs)) holds c.ask.ensures.err)
    (ap (λ (x : TableCell). with_holds c.ask.new.self x) c.self.view_is))
