use Rattle.std.proofs.Common.{rules, ◌≡◌, ℕ, ◌<◌, ◌≤◌, [], ◌∷◌, length, take, replicate, sym, ap, ◌∙◌, subst, arith}
use Rattle.base_board.proofs.Starts.{starts}
use Rattle.base_board.proofs.Rows.{zero_at, zeros_long}
use Rattle.base_board.proofs.board.Board.new.Goals as goal

pub new-requires : goal.new-requires
new-requires g c = let cells = c.args.cells.items in let n : ℕ = c.len-count.result in let count : n ≡ length cells = search rules in let most : length cells ≤ 34 = c.requires.count.1 in
    starts g.W.World.stand g.W.World.nobody c.from.result (take n (replicate 34 0)) c.in_ok-slots.slots.items cells (g.W.World.first c.of.result.value.items) c.in_ok-slots.ensures.slots
    (zeros_long n 34 (omega arith) ∙ count) (λ i _. zero_at n 34 i) (let p : c.from.result ≡ c.args.parts = c.from.ensures in let q : 0 < c.args.parts = c.requires.parts in omega arith)
    (subst (λ l. g.W.World.stand cells (g.W.World.first l ∷ [])) (sym (ap (λ v. v.items) c.of.ensures)) c.requires.stand)
