use Rattle.std.proofs.Common.{◌≡◌, ◌≤◌, ◌<◌, ◌*◌, ◌+◌, ◌^◌, ℕ, arith, refl, slice_index_or}
use Rattle.std.proofs.Math.Nat.{pow-le-pow_right}
use Rattle.cli_words.proofs.forms.number_of.Goals as goal

room : (n i : ℕ) → n < 10 ^ i → i ≤ 18 → n * 10 + 256 < 2 ^ 64
room n i small few =
    let p : 10 ^ i ≤ 10 ^ 18 = pow-le-pow_right (omega arith) few in
    let q : 10 ^ 18 ≡ 1000000000000000000 = refl in
    omega arith

pub overflow_mul-n : goal.overflow_mul-n
overflow_mul-n c = let r = room c.loop-b.n c.loop-b.b-index c.loop-b.invariant.1 (omega arith) in omega arith

pub overflow_add-n : goal.overflow_add-n
overflow_add-n c =
    let r = room c.loop-b.n c.loop-b.b-index c.loop-b.invariant.1 (omega arith) in
    let b : slice_index_or c.args.digits.now c.loop-b.b-index 0 < 256 = (c.type_inv.digits c.loop-b.b-index).fits in
    omega arith
