use Rattle.std.proofs.Common.{arith, ap, sym, ◌∙◌, length, take_all, slice_get, deque_len}
use Rattle.std.proofs.lemmas.Option.{slice_get_past}
use Rattle.store_order.proofs.Edits.{last_get}
use Rattle.store_order.proofs.piece.Piece.make_way.Goals as goal

pub returns-then-len-lt-PIECE-clause-list : goal.returns-then-len-lt-PIECE-clause-list
returns-then-len-lt-PIECE-clause-list c =
    let xs = c.args.self.now in
    sym (take_all 511 xs (omega (arith, c.self.inside.starts.ok.0, ap length c.self.view_is)))

pub returns-then-len-lt-PIECE-clause-taken : goal.returns-then-len-lt-PIECE-clause-taken
returns-then-len-lt-PIECE-clause-taken c =
    let xs = c.args.self.now in
    sym (slice_get_past xs 511 (omega (arith, c.self.inside.starts.ok.0, ap length c.self.view_is)))

pub returns-clause-taken : goal.returns-clause-taken
returns-clause-taken c =
    let starts = c.self.inside.starts in
    last_get 511 (deque_len starts) (deque_len c.pop_back.new.self) starts.items c.pop_back.new.self.items c.pop_back.result c.pop_back.ensures.items c.pop_back.ensures.cases
    (omega (arith, starts.ok.0, c.self.invariant.0)) (omega (arith, starts.ok.0, c.self.invariant.0))
    ∙ ap (λ l. slice_get l 511) c.self.view_is
