use Rattle.std.proofs.Common.{arith, ◌+◌, ◌<◌, ap, sym, subst, length, List, ℕ}
use Rattle.std.specs.List.{remove}
use Rattle.sql_types.specs.declared.version.Version.{Version}
use Rattle.store_table.specs.Kept.{AreOf, IsKept}
use Rattle.store_table.specs.Stored.{ReservedTable}
use Rattle.store_table.proofs.Rooms.{less_room}
use Rattle.store_table.proofs.Steps.{withdrawn_kept, told}
use Rattle.store_table.proofs.version_store.VersionStore.withdraw.Goals as goal

pub invariant_of-self : goal.invariant_of-self
invariant_of-self c =
    let s = c.self.inside in
    let vs = s.versions.items in
    let p = c.take_version.new.orders in
    let inside : c.args.place < length vs = subst (λ (t : ReservedTable). c.args.place < length t.stored.versions) (sym c.self.view_is) c.requires in
    let are : AreOf s.key.items (remove vs c.args.place) p =
    subst (λ (k : List ℕ). AreOf k (remove vs c.args.place) p) c.deref.ensures.value
    (subst (λ (l : List Version). AreOf c.deref.result.now (remove l c.args.place) p) c.deref-2.ensures.value c.take_version.ensures.are) in
    let kept = subst (λ (l : List Version). IsKept s.key.items l p) (sym c.remove.ensures.items)
    (withdrawn_kept s.key.items vs c.args.place c.remove.result inside c.remove.ensures.value s.orders c.self.invariant.0 p are) in (
      kept,
      omega (arith, c.remove.ensures.len, c.remove.ensures.capacity, c.remove.new.self.ok.0, s.versions.ok.0, c.self.invariant.1),
      less_room _ (length vs + s.room) p (omega (arith, c.remove.ensures.len, c.remove.new.self.ok.0, s.versions.ok.0)) (c.take_version.ensures.room (length vs + s.room) c.self.invariant.2),
    )

pub returns-clause-stored : goal.returns-clause-stored
returns-clause-stored c =
    let s = c.self.inside in
    let vs = s.versions.items in
    let p = c.take_version.new.orders in
    let inside : c.args.place < length vs = subst (λ (t : ReservedTable). c.args.place < length t.stored.versions) (sym c.self.view_is) c.requires in
    let are : AreOf s.key.items (remove vs c.args.place) p =
    subst (λ (k : List ℕ). AreOf k (remove vs c.args.place) p) c.deref.ensures.value
    (subst (λ (l : List Version). AreOf c.deref.result.now (remove l c.args.place) p) c.deref-2.ensures.value c.take_version.ensures.are) in
    let kept = subst (λ (l : List Version). IsKept s.key.items l p) (sym c.remove.ensures.items)
    (withdrawn_kept s.key.items vs c.args.place c.remove.result inside c.remove.ensures.value s.orders c.self.invariant.0 p are) in
    told s.key.items vs c.remove.new.self.items s.orders p c.args.self.now.stored (ap (λ (t : ReservedTable). t.stored) c.self.view_is)
    kept c.take_version.ensures.ordinals (λ (l : List Version). remove l c.args.place) c.remove.ensures.items
