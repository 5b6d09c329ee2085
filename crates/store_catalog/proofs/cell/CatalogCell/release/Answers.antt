use Rattle.std.proofs.Common.{refl}
use Rattle.store_catalog.proofs.cell.CatalogCell.release.Goals as goal

pub returns : goal.returns
returns c = rw (← c.self.view_is, c.keep_change.ensures.creator c.self.inside.defs, c.release.ensures) refl

pub invariant_of-self : goal.invariant_of-self
invariant_of-self c = (c.self.invariant.0, c.keep_change.ensures.back c.self.inside.defs c.self.invariant.1)
