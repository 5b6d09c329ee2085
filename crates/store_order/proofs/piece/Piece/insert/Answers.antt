use Rattle.std.proofs.Common.{◌≡◌, ◌≤◌, ◌∙◌, ◌∷◌, [], arith, ap, sym, length, length-take, take, take_at}
use Rattle.std.specs.List.{insert}
use Rattle.std.proofs.lemmas.List.Edits.{insert_end}
use Rattle.store_order.proofs.Edits.{cut_insert, get_insert}
use Rattle.store_order.proofs.piece.Piece.insert.Goals as goal

pub returns-then-place-eq-PIECE-clause-list : goal.returns-then-place-eq-PIECE-clause-list
returns-then-place-eq-PIECE-clause-list c =
    let xs = c.args.self.now in let x = c.args.start in
    let most : length xs ≤ 512 = omega (arith, ap length c.self.view_is, c.self.invariant.0) in
    let long : length xs ≡ 512 = omega (arith, most, c.requires) in
    let end : c.args.place ≡ length xs = omega arith in
    sym (ap (λ n. take 512 (insert xs n x)) end ∙ ap (take 512) (insert_end xs x) ∙ take_at xs (x ∷ []) 512 long)

pub put-requires-clause-within : goal.put-requires-clause-within
put-requires-clause-within c =
    let xs = c.args.self.now in
    let most : length xs ≤ 512 = omega (arith, ap length c.self.view_is, c.self.invariant.0) in
    omega (arith, most, c.requires, ap length c.make_way-last.ensures.list, length-take 511 xs)

pub put-requires-clause-room : goal.put-requires-clause-room
put-requires-clause-room c = omega (arith, ap length c.make_way-last.ensures.list, length-take 511 c.args.self.now)

pub returns-clause-list : goal.returns-clause-list
returns-clause-list c =
    let xs = c.args.self.now in let place = c.args.place in let x = c.args.start in
    let most : length xs ≤ 512 = omega (arith, ap length c.self.view_is, c.self.invariant.0) in
    c.put.ensures ∙ ap (λ l. insert l place x) c.make_way-last.ensures.list
    ∙ cut_insert 511 xs place x (omega (arith, most)) c.requires

pub returns-clause-left : goal.returns-clause-left
returns-clause-left c =
    let xs = c.args.self.now in let place = c.args.place in let x = c.args.start in
    let most : length xs ≤ 512 = omega (arith, ap length c.self.view_is, c.self.invariant.0) in
    c.make_way-last.ensures.taken ∙ sym (get_insert 511 xs place x (omega (arith, most)) c.requires)
