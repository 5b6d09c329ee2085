use Rattle.std.proofs.Common.{subst}
use Rattle.std.specs.Option.{option_copied}
use Rattle.store_tx.specs.Trees.{IsMark}
use Rattle.store_tx.proofs.tree.restore.Goals as goal

pub returns-in-Some : goal.returns-in-Some
returns-in-Some g c = λ leaves before holds marks. c.restore.ensures c.args.hasher leaves before holds
    (subst (λ mark. IsMark (g.H.Hash32.digest c.args.hasher) (option_copied mark) before) c.in-Some.is marks)
