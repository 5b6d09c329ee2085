use Rattle.std.proofs.Common.{◌≡◌, ℕ, ◌+◌, ◌-◌, ◌∙◌, ap, take, drop, arith}
use Rattle.base_sha256.proofs.Filling.{filled_more, filled_none}
use Rattle.base_sha256.proofs.block.put.Goals as goal

pub returns-then-from-piece-clause-filled : goal.returns-then-from-piece-clause-filled
returns-then-from-piece-clause-filled c = λ start m ef held.
    filled_none c.args.block.now c.args.filled c.args.from start m c.args.piece.now ef (omega arith) held

pub returns-clause-filled : goal.returns-clause-filled
returns-clause-filled c = λ start m ef held.
    let n = c.min-count.result in
    let all : c.args.from + n - c.args.from ≡ n = omega arith in
    let copied = c.copy_from_slice.ensures.after ∙ ap (λ (k : ℕ). take k (drop c.args.from c.args.piece.now)) all in
    filled_more c.args.block.now c.args.filled c.args.from start n (c.args.filled + n - c.args.filled) m c.args.piece.now c.copy_from_slice.new.self
    ef (omega arith) c.min-count.ensures (omega arith) copied held
