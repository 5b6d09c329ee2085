use Rattle.std.proofs.Common.{◌∙◌, ap, sym}
use Rattle.base_merkle.specs.Levels.{level_above}
use Rattle.base_merkle.proofs.Levels.{eight_of}
use Rattle.base_merkle.proofs.level.above_eight.Goals as goal

pub returns : goal.returns
returns g c =
    let h = g.H.Hash32.digest c.args.hasher in
    let made = rw (c.head_of-a.ensures, c.head_of-b.ensures, c.head_of-c.ensures, c.head_of-d.ensures) at c.join_four.ensures in
    made ∙ sym (ap (level_above h) (eight_of c.args.nodes.now c.requires))
