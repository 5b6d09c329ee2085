use Rattle.std.proofs.Common.{ap, subst₂, List, ℕ}
use Rattle.sql_types.specs.declared.version.Version.{Version}
use Rattle.store_table.specs.Kept.{AreOf}
use Rattle.store_table.specs.Stored.{Stored}
use Rattle.store_table.proofs.Built.{stored_built}
use Rattle.store_table.proofs.version_store.VersionStore.of_versions.Goals as goal

pub returns : goal.returns
returns c =
    let orders = c.in_ok-orders.orders in
    let are = subst₂ (λ (k : List ℕ) (vs : List Version). AreOf k vs orders) c.deref.ensures.value c.deref-2.ensures.value c.in_ok-orders.ensures.of in
    ap (λ (s : Stored). record { stored = s; room = 0 })
    (stored_built c.args.key.items c.args.versions.items c.requires orders c.args.indexes.now are c.in_ok-orders.ensures.ordinals)
