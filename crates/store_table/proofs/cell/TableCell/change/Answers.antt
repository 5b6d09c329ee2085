use Rattle.std.proofs.Common.{◌≡◌, arith, subst, sym, ap, ◌∙◌, ℕ, List}
use Rattle.sql_value.specs.declared.refusal.Refusal.{Refusal}
use Rattle.sql_types.specs.declared.version.Version.{Version}
use Rattle.spec_model.specs.Changes.{row_changes}
use Rattle.std.specs.Prelude.{Err, length}
use Rattle.spec_protocol.specs.Cells.{TableCell}
use Rattle.store_table.specs.Calls.{IsStopped, LocksTaken}
use Rattle.store_table.specs.Stored.{Stored}
use Rattle.store_table.proofs.Asking.{held_within, left}
use Rattle.store_table.proofs.Whole.{changed_under, seen}
use Rattle.store_table.proofs.cell.TableCell.change.Goals as goal

pub stop-requires : goal.stop-requires
stop-requires g c =
    let within = held_within c.args.self.now c.id.result c.args.requests.now c.lock.new.self c.in_ok-lock.ensures.ok in
    let there = ap (λ (x : TableCell). length x.holds) c.self.view_is in
    omega (arith, c.held-held.ensures, within, there)

pub returns-in-Ok-clause-ok : goal.returns-in-Ok-clause-ok
returns-in-Ok-clause-ok g c =
    changed_under g.H.Hash32.digest c.args.self.now c.lock.new.self c.id.result c.self.inside.id c.args.requests.now c.self.inside.store.stored c.change_rows.new.store.stored c.self.inside.locks
    c.args.ctx.now c.change_rows.new.ctx c.args.table.now c.args.stmt.now c.in-Ok.count c.in_ok-lock.ensures.ok c.self.view_is c.requires.table.here c.id.ensures c.in-Ok.ensures.ok

pub returns-in-Err-clause-stopped : goal.returns-in-Err-clause-stopped
returns-in-Err-clause-stopped g c = λ h o r.
    let cell = c.args.self.now in
    let requests = c.args.requests.now in
    let refuses : Refusal → Type 0 = λ e. row_changes c.args.table.now cell.versions c.args.stmt.now ≡ Err e in
    let behind : TableCell = seen c.self.inside.id c.change_rows.new.store.stored c.self.inside.locks in
    let same : behind ≡ c.lock.new.self = ap (λ (t : Stored). seen c.self.inside.id t c.self.inside.locks) c.in-Err.ensures.err ∙ c.self.view_is in
    let locks : LocksTaken cell c.id.result requests behind = subst (λ (x : TableCell). LocksTaken cell c.id.result requests x) (sym same) c.in_ok-lock.ensures.ok in
    let versions = ap (λ (x : TableCell). x.versions) (c.self.view_is ∙ c.in_ok-lock.ensures.ok.cell) in
    subst (λ (n : ℕ). IsStopped cell n requests refuses c.stop.result c.stop.new.self) (c.id.ensures h o r)
    (left cell c.id.result requests refuses behind c.stop.new.self c.held-held.result c.in-Err.refusal c.stop.result locks c.held-held.ensures c.stop.ensures
    (λ other. subst (λ (vs : List Version). row_changes c.args.table.now vs c.args.stmt.now ≡ Err c.in-Err.refusal) versions (c.in-Err.ensures.refused other)))
