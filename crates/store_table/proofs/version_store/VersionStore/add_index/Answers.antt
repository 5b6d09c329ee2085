use Rattle.std.proofs.Common.{◌≡◌, ◌+◌, ap, subst, length, List, ℕ}
use Rattle.sql_types.specs.declared.version.Version.{Version}
use Rattle.store_table.specs.Kept.{IsOf}
use Rattle.store_table.specs.Stored.{ReservedTable, Stored, with_index}
use Rattle.store_table.proofs.Steps.{other_indexes, one_index, stored_of}
use Rattle.store_table.proofs.version_store.VersionStore.add_index.Goals as goal

pub invariant_of-self : goal.invariant_of-self
invariant_of-self c =
    let s = c.self.inside in (
      (other_indexes s.key.items s.versions.items s.orders c.push.new.self (length s.versions.items + s.room) c.in_err-push.ensures.items c.self.invariant.0 c.self.invariant.2).0,
      c.self.invariant.1,
      (other_indexes s.key.items s.versions.items s.orders c.push.new.self (length s.versions.items + s.room) c.in_err-push.ensures.items c.self.invariant.0 c.self.invariant.2).1,
    )

pub returns-clause-ok : goal.returns-clause-ok
returns-clause-ok c =
    let s = c.self.inside in
    let vs = s.versions.items in
    let i = c.in_ok-index.index in
    let of : IsOf s.key.items vs i =
    subst (λ (k : List ℕ). IsOf k vs i) c.deref.ensures.value
    (subst (λ (l : List Version). IsOf c.deref.result.now l i) c.deref-2.ensures.value c.in_ok-index.ensures.of) in
    subst (λ (t : Stored). stored_of s.key.items vs (record { key_order = s.orders.key_order; ends = s.orders.ends; indexes = c.push.new.self }) ≡ with_index c.args.ordinals.now t)
    (ap (λ (t : ReservedTable). t.stored) c.self.view_is)
    (one_index s.key.items vs s.orders c.push.new.self i c.args.ordinals.now c.in_ok-push.ensures.items c.self.invariant.0 of c.in_ok-index.ensures.ordinals)
