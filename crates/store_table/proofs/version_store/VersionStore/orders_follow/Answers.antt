use Rattle.std.proofs.Common.{◌≡◌, subst}
use Rattle.store_table.specs.Stored.{ReservedTable, with_versions}
use Rattle.store_table.proofs.Steps.{follows}
use Rattle.store_table.proofs.version_store.VersionStore.orders_follow.Goals as goal

pub returns : goal.returns
returns c =
    let s = c.self.inside in
    subst (λ (t : ReservedTable). t.stored ≡ with_versions t.stored.key t.stored.versions t.stored) c.self.view_is
    (follows s.key.items s.versions.items s.orders c.self.invariant.0)
