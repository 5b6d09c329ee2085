use Rattle.std.proofs.Common.{ℕ, ◌<◌, subst, sym, ◌∙◌}
use Rattle.base_board.proofs.Gives.{gives_from}
use Rattle.base_board.proofs.Rows.{last_out}
use Rattle.base_board.proofs.steps.give_back.Goals as goal

pub swap-requires : goal.swap-requires
swap-requires g c = let t = c.requires.table in let now = c.exchange.ensures in let held = last_out c.args.i c.args.token.now.me.0.out c.requires.last in (
  now.0 ∙ t.0,
  subst (λ (n : ℕ). c.args.i < n) (sym t.2) t.1,
  gives_from g.W.World.stand g.W.World.nobody c.args.table.now.shared.key.parts g.W.World.may g.W.World.visits c.args.table.now.shared.table_id.slots c.exchange.new.seat.id c.args.token.now.me c.exchange.new.seat.me c.args.i held.0 c.args.cell g.P.AfterVisit.after c.requires.may.0
      now.3 t.1 c.requires.part held.1 c.requires.may.1 c.requires.may.2,
)
