use Rattle.std.proofs.Common.{subst}
use Rattle.spec_model.specs.Runs.{Rising}
use Rattle.store_table.specs.Stored.{ReservedTable}
use Rattle.store_table.proofs.version_store.VersionStore.versions_rise.Goals as goal

pub returns : goal.returns
returns c = subst (λ (t : ReservedTable). Rising t.stored.versions) c.self.view_is c.self.invariant.0.rising
