use Rattle.std.proofs.Common.{ℕ, ◌<◌, subst, sym}
use Rattle.base_board.proofs.Takes.{takes_cell, awaited_mark}
use Rattle.base_board.proofs.steps.try_take_or_mark.Goals as goal

pub swap-found-requires : goal.swap-found-requires
swap-found-requires g c = let t = c.requires.table in (
  t.0,
  subst (λ (n : ℕ). c.args.i < n) (sym t.2) t.1,
  takes_cell g.W.World.stand g.W.World.nobody c.args.table.now.shared.key.parts (λ _. 2) awaited_mark 2 0 c.args.table.now.shared.table_id.slots c.args.token.now.id c.args.token.now.me c.args.i t.1 c.requires.part c.requires.order,
)
