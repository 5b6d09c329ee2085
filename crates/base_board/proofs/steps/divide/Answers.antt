use Rattle.std.proofs.Common.{◌<◌, ℕ, subst}
use Rattle.base_board.proofs.Parts.{splits_seat}
use Rattle.base_board.proofs.steps.divide.Goals as goal

pub split_seat-requires : goal.split_seat-requires
split_seat-requires g c = let t = c.requires.table in let n = c.requires.count in (
  t.0,
  t.1,
  splits_seat g.W.World.stand g.W.World.nobody c.args.table.now.shared.key.parts g.W.World.kept g.W.World.split g.W.World.splits c.args.token.now.id c.args.token.now.me.0 g.K.SplitCount.count
      (subst (λ (x : ℕ). 0 < x) n.0 n.1) (subst (λ (x : ℕ). x < c.args.token.now.me.0.parts) n.0 n.2),
)
