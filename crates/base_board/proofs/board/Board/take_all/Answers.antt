use Rattle.std.proofs.Common.{rules, ◌≡◌, ◌+◌, ◌<◌, ◌≤◌, [], ◌∷◌, length, sym, ap, ◌∙◌, subst, arith}
use Rattle.base_board.specs.Outs.{AllBelow, OutsAreIn, all_out}
use Rattle.base_board.proofs.AllOut.{all_out_snoc, all_below, whole}
use Rattle.base_board.proofs.board.Board.take_all.Goals as goal

pub take-cell-requires-clause-order : goal.take-cell-requires-clause-order
take-cell-requires-clause-order g c = let inv = c.loop-i.invariant in let long : 0 + length c.loop-i.cells.items ≡ c.loop-i.i = search rules in
    subst (AllBelow c.loop-i.i) (sym inv.3) (all_below 0 c.loop-i.i c.loop-i.cells.items [] tt long)

pub loop-i-preserved : goal.loop-i-preserved
loop-i-preserved g c = let inv = c.loop-i.invariant in let t = c.take-cell.ensures in let long : 0 + length c.loop-i.cells.items ≡ c.loop-i.i = search rules in let x = c.take-cell.result.cell in (
  t.seat.0 ∙ inv.0,
  t.seat.1 ∙ inv.1,
  t.seat.2 ∙ inv.2,
  t.out ∙ ap (λ l. (c.loop-i.i, x) ∷ l) inv.3 ∙ sym (all_out_snoc 0 c.loop-i.i c.loop-i.cells.items x [] long) ∙ ap (λ l. all_out 0 l []) (sym c.push_reserved.ensures.items),
  (let l = c.push_reserved.ensures.len in let m = inv.4 in omega arith),
  (let l = c.push_reserved.ensures.capacity in let m = inv.5 in omega arith),
  λ _. t.stand,
)

pub returns-clause-stand : goal.returns-clause-stand
returns-clause-stand g c = let inv = c.loop-i.invariant in
    let some_cell : 0 < c.args.self.now.table.shared.table_id.slots = c.args.self.now.sized.1 in
    let count : c.cell_count-count.result ≡ c.args.self.now.table.shared.table_id.slots = c.cell_count-count.ensures in
    let end : c.cell_count-count.result ≤ c.loop-i.i = c.loop-i-test.false in
    let near : c.loop-i.i ≤ c.cell_count-count.result = c.loop-i.auto.i-end in
    let s = inv.6 (omega arith) in
    let long : 0 + length c.loop-i.cells.items ≡ c.loop-i.i = search rules in
    let all : s.0 ≡ c.loop-i.cells.items = whole s.0 c.loop-i.cells.items (let n : length s.0 ≡ c.args.self.now.table.shared.table_id.slots = s.6 in omega arith) (subst (OutsAreIn s.0) inv.3 s.5) in
    (s.1, s.2, subst (λ l. g.W.World.stand l s.1) all s.3, s.4)
