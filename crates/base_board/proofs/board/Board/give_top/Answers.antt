use Rattle.std.proofs.Common.{rules, ◌≡◌, ◌≤◌, [], vec_len, sym, ap, ◌∙◌, arith, refl, subst}
use mathlib.Core.Option.{some}
use lib.ListN.{get_elem?}
use Rattle.atomic_table.specs.Table.{rest}
use Rattle.base_board.specs.Outs.{IsLastOut, all_out}
use Rattle.base_board.proofs.AllOut.{top_out, last_at, first_at}
use Rattle.base_board.proofs.board.Board.give_top.Goals as goal

pub give-requires-clause-last : goal.give-requires-clause-last
give-requires-clause-last g c = let top = top_out _ c.args.cells.now.items c.pop.new.self.items c.in-Some.cell c.len.result c.requires.out.0 c.in-Some.ensures.items (search rules) in
    subst (IsLastOut c.len.result) (sym top) refl

pub give-requires-clause-may : goal.give-requires-clause-may
give-requires-clause-may g c = let top = top_out _ c.args.cells.now.items c.pop.new.self.items c.in-Some.cell c.len.result c.requires.out.0 c.in-Some.ensures.items (search rules) in
    let there : get_elem? c.args.cells.now.items c.len.result ≡ some c.in-Some.cell = last_at c.args.cells.now.items c.pop.new.self.items c.in-Some.cell c.len.result c.in-Some.ensures.items (search rules) in
    c.requires.may c.len.result c.in-Some.cell (all_out 0 c.pop.new.self.items []) top there

pub returns-in-Some-clause-out : goal.returns-in-Some-clause-out
returns-in-Some-clause-out g c = let top = top_out _ c.args.cells.now.items c.pop.new.self.items c.in-Some.cell c.len.result c.requires.out.0 c.in-Some.ensures.items (search rules) in
    (c.give.ensures.out ∙ ap rest top, (let l = c.in-Some.ensures.len in let n : vec_len c.pop.new.self ≤ vec_len c.args.cells.now = omega arith in n))

pub returns-in-Some-clause-left : goal.returns-in-Some-clause-left
returns-in-Some-clause-left g c = λ i d at. first_at c.args.cells.now.items c.pop.new.self.items c.in-Some.cell c.in-Some.ensures.items i d at
