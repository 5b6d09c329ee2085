use Rattle.std.proofs.Common.{ℕ, ◌<◌, subst, sym, eqb}
use prog.Atomic.{either}
use Rattle.base_board.proofs.Takes.{takes_cell, out_mark}
use Rattle.base_board.proofs.steps.try_take.Goals as goal

pub compare_exchange-found-requires : goal.compare_exchange-found-requires
compare_exchange-found-requires g c = let t = c.requires.table in (
  t.0,
  subst (λ (n : ℕ). c.args.i < n) (sym t.2) t.1,
  takes_cell g.W.World.stand g.W.World.nobody c.args.table.now.shared.key.parts (λ y. either (eqb y 0) 1 y) out_mark 0 1 c.args.table.now.shared.table_id.slots c.args.token.now.id c.args.token.now.me c.args.i t.1 c.requires.part c.requires.order,
)
