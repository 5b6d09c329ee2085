use Rattle.std.proofs.Common.{refl}
use Rattle.store_tx.proofs.Trees.{still_open}
use Rattle.store_tx.proofs.Represented.{may_push, noted}
use Rattle.store_tx.proofs.context.TxCtx.note.Goals as goal

pub push_leaf-requires-clause-open : goal.push_leaf-requires-clause-open
push_leaf-requires-clause-open g c κs within = may_push g.H.Hash32.digest c.args.table c.args.self.now c.requires

pub returns-clause-noted : goal.returns-clause-noted
returns-clause-noted g c = λ h o r. noted g.H.Hash32.digest h c.args.self.now _ o c.args.table c.args.leaf.now (record { hasher = refl; id = refl; explicit = refl }) refl refl
    c.push_leaf.ensures.here c.push_leaf.ensures.others c.push_leaf.ensures.tables r

pub returns-clause-open : goal.returns-clause-open
returns-clause-open g c = λ id f. still_open id c.args.table c.args.self.now.trees.items c.push_leaf.new.trees.items f.0 c.push_leaf.ensures.open.0 f.1 c.push_leaf.ensures.open.1
    (c.push_leaf.ensures.others id)
