use Rattle.std.proofs.Common.{subst, sym}
use Rattle.spec_protocol.specs.Serial.{Differ}
use Rattle.store_tx.specs.Trees.{TreesHold, tables_of}
use Rattle.store_tx.proofs.context.TxCtx.is_read_only.Goals as goal

pub returns : goal.returns
returns g c = λ h o represents differ.
    let back = sym c.deref.ensures.value in
    c.have_no_leaf.ensures h o.trees (subst (λ ts. Differ (tables_of ts)) back represents.differ) differ
    (subst (λ ts. TreesHold g.H.Hash32.digest h ts o.trees) back represents.trees)
