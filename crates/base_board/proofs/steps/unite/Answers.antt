use Rattle.base_board.proofs.Parts.{joins_seat}
use Rattle.base_board.proofs.steps.unite.Goals as goal

pub join_seat-requires : goal.join_seat-requires
join_seat-requires g c = let t = c.requires.table in let e = c.requires.end in (
  t.0,
  t.1,
  e.1,
  t.2,
  joins_seat g.W.World.stand g.W.World.nobody c.args.table.now.shared.key.parts g.W.World.may_end g.W.World.joined g.W.World.joins c.args.token.now.id c.args.token.now.me.0 c.args.other.id c.args.other.me.0 c.requires.part e.0 e.2,
)
