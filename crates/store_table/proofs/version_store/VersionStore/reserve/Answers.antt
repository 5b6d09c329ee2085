use Rattle.std.proofs.Common.{arith, ◌+◌, ap, sym, subst, length, List}
use Rattle.sql_types.specs.declared.version.Version.{Version}
use Rattle.store_table.specs.Kept.{IsKept}
use Rattle.store_table.proofs.Rooms.{less_room}
use Rattle.store_table.proofs.Steps.{alike_kept}
use Rattle.store_table.proofs.version_store.VersionStore.reserve.Goals as goal

pub invariant_of-self : goal.invariant_of-self
invariant_of-self c =
    let s = c.self.inside in
    let long = ap length c.reserve.ensures.items in (
      subst (λ (l : List Version). IsKept s.key.items l s.orders) (sym c.reserve.ensures.items) c.self.invariant.0,
      omega (arith, long, c.reserve.ensures.capacity, c.self.invariant.1),
      less_room _ (length s.versions.items + s.room) s.orders (omega (arith, long)) c.self.invariant.2,
    )

pub invariant_of-self-in_err-reserve_orders : goal.invariant_of-self-in_err-reserve_orders
invariant_of-self-in_err-reserve_orders c =
    let s = c.self.inside in
    let p = c.reserve_orders.new.orders in
    let long = ap length c.reserve.ensures.items in (
      subst (λ (l : List Version). IsKept s.key.items l p) (sym c.reserve.ensures.items)
          (alike_kept s.key.items s.versions.items s.orders p c.reserve_orders.ensures.same c.self.invariant.0),
      omega (arith, long, c.reserve.ensures.capacity, c.self.invariant.1),
      less_room _ (length s.versions.items + s.room) p (omega (arith, long)) (c.reserve_orders.ensures.room (length s.versions.items + s.room) c.self.invariant.2),
    )

pub invariant_of-self-2 : goal.invariant_of-self-2
invariant_of-self-2 c =
    let s = c.self.inside in
    let p = c.reserve_orders.new.orders in (
      subst (λ (l : List Version). IsKept s.key.items l p) (sym c.reserve.ensures.items)
          (alike_kept s.key.items s.versions.items s.orders p c.reserve_orders.ensures.same c.self.invariant.0),
      omega (arith, c.in_ok-reserve.ensures.ok, c.reserve.new.self.ok.0),
      less_room _ (c.len.result + c.args.count) p (omega (arith, c.len.ensures, c.reserve.new.self.ok.0)) c.in_ok-reserve_orders.ensures.ok,
    )
