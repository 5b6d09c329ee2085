use Rattle.std.proofs.Common.{◌≡◌, ◌+◌, ◌-◌, take, ap, subst, ◌∙◌, length}
use Rattle.store_table.specs.Stored.{ReservedTable, Stored, without_last_index}
use Rattle.store_table.proofs.Steps.{last_off, stored_of}
use Rattle.store_table.proofs.version_store.VersionStore.drop_index.Goals as goal

pub invariant_of-self : goal.invariant_of-self
invariant_of-self c =
    let s = c.self.inside in
    let off = last_off s.key.items s.versions.items s.orders c.pop.new.self (length s.versions.items + s.room) (c.pop.ensures.rest ∙ ap (λ n. take (n - 1) s.orders.indexes.items) s.orders.indexes.ok.0) c.self.invariant.0 c.self.invariant.2 in
    (off.0, c.self.invariant.1, off.1)

pub returns-clause-stored : goal.returns-clause-stored
returns-clause-stored c =
    let s = c.self.inside in
    let off = last_off s.key.items s.versions.items s.orders c.pop.new.self (length s.versions.items + s.room) (c.pop.ensures.rest ∙ ap (λ n. take (n - 1) s.orders.indexes.items) s.orders.indexes.ok.0) c.self.invariant.0 c.self.invariant.2 in
    subst (λ (t : Stored). stored_of s.key.items s.versions.items (record { key_order = s.orders.key_order; ends = s.orders.ends; indexes = c.pop.new.self }) ≡ without_last_index t)
    (ap (λ (t : ReservedTable). t.stored) c.self.view_is) off.2
