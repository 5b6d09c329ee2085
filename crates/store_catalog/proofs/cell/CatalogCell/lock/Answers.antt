use Rattle.std.proofs.Common.{◌≡◌, sym, ap, subst, Bool, List}
use Rattle.std.specs.Prelude.{Result, IfOk, IfErr, OnOk}
use Rattle.sql_value.specs.declared.refusal.Refusal.{Refusal}
use Rattle.sql_types.specs.declared.lock.Hold.{Hold}
use Rattle.sql_types.specs.declared.reply.Reply.TheVariants as reply
use Rattle.spec_model.specs.Holds.{holds_after}
use Rattle.store_locks.specs.Asked.{asked, IsMeant}
use Rattle.spec_protocol.specs.CatalogVisits.{with_holds}
use Rattle.spec_protocol.specs.Cells.{CatalogCell}
use Rattle.spec_protocol.specs.Doing.{Stopped}
use Rattle.store_catalog.specs.Calls.{LocksTaken}
use Rattle.store_catalog.specs.Definitions.{creator_seen}
use Rattle.store_catalog.proofs.Asking.{taken, stopped}
use Rattle.store_catalog.proofs.cell.CatalogCell.lock.Goals as goal

pub returns-clause-ok : goal.returns-clause-ok
returns-clause-ok c =
    let holds = ap (λ (x : CatalogCell). x.holds) c.self.view_is in
    let after : CatalogCell = record {
      defs = c.self.inside.defs;
      creator = creator_seen c.self.inside.defs c.self.inside.creator;
      tables = c.self.inside.tables.stored.versions;
      columns = c.self.inside.columns.stored.versions;
      holds = c.ask.new.self;
    } in
    subst (λ (r : Result Bool Refusal). IfOk r (λ fresh. LocksTaken c.args.self.now c.args.tx c.args.requests.now fresh after)) (sym c.or_refusal.ensures)
    (taken c.args.self.now c.args.tx c.args.requests.now c.ask.new.self after c.ask.result
    (subst (λ (hs : List Hold). IsMeant (asked hs c.args.tx c.args.requests.now) c.ask.result) holds c.ask.ensures.answer)
    (subst (λ (hs : List Hold). OnOk c.ask.result (c.ask.new.self ≡ holds_after hs c.args.tx c.args.requests.now)) holds c.ask.ensures.ok)
    (ap (λ (x : CatalogCell). with_holds c.ask.new.self x) c.self.view_is))

pub returns-clause-stopped : goal.returns-clause-stopped
returns-clause-stopped c =
    let holds = ap (λ (x : CatalogCell). x.holds) c.self.view_is in
    subst (λ (r : Result Bool Refusal). IfErr r (λ e. Stopped c.args.self.now.holds c.args.tx c.args.requests.now (reply.Refused e))) (sym c.or_refusal.ensures)
    (stopped c.args.self.now c.args.tx c.args.requests.now c.ask.result
    (subst (λ (hs : List Hold). IsMeant (asked hs c.args.tx c.args.requests.now) c.ask.result) holds c.ask.ensures.answer))
