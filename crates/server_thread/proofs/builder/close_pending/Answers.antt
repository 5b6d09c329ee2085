use Rattle.std.proofs.Common.{◌∷◌, ◌∙◌, ℕ, List, refl, sym, ap, subst}
use Rattle.base_board.specs.Boards.{seat_state}
use Rattle.base_board.specs.Outs.{OutsAreIn}
use Rattle.spec_syntax.specs.Text.{statement_of}
use Rattle.server_session.specs.KeptCell.{KeptCell, Keeps}
use Rattle.spec_protocol.specs.Cells.{ledger_at}
use Rattle.server_board.specs.ServedDatabase.{MayVisitServed}
use Rattle.server_engine.proofs.ClosingPending.{kept_there, may_either}
use Rattle.server_thread.proofs.builder.close_pending.Goals as goal

pub close_pending-requires-after_bounds : goal.close_pending-requires-after_bounds
close_pending-requires-after_bounds g c = λ κs within.
    let t = c.take-held.ensures in let s = t.stand in
    let there = subst (OutsAreIn s.0) t.out s.5 in
    kept_there g.K.Serving.database (g.H.Hash32.digest c.args.hasher) statement_of c.requires.serves s.0 s.1 s.3 ledger_at c.take-held.result.cell there.0

pub give_with-requires-clause-may : goal.give_with-requires-clause-may
give_with-requires-clause-may g c =
    let t = c.take-held.ensures in
    let k = c.take-held.result.cell in
    let e = c.close_pending.new.self in
    let state = seat_state c.take-held.new.seat in (
      state,
      subst (λ (out : List (ℕ × KeptCell)). MayVisitServed (λ (k : KeptCell). k.cell) Keeps g.K.Serving.database state out ledger_at e state) (sym (t.out ∙ ap (λ (out : List (ℕ × KeptCell)). (ledger_at, k) ∷ out) c.requires.free.2))
          (may_either g.K.Serving.database (g.H.Hash32.digest c.args.hasher) statement_of c.requires.serves k e state c.close_pending.result c.close_pending.ensures.closes c.close_pending.ensures.err c.close_pending.ensures.keeps),
      refl,
    )
