-- Bytes that grow: what stood first still does.
use Rattle.std.proofs.Common.{◌≡◌, ◌≤◌, ℕ, List, ◌++◌, length, take, sym, ap, ◌∙◌, arith, length-append}
use Rattle.std.proofs.lemmas.List.{take-take}
use Rattle.std.proofs.Math.Seq.{take-append_seam}

pub first_part_stays : (old more before new : List ℕ) → before ≡ old ++ more → take (length before) new ≡ before
    → take (length old) new ≡ old
first_part_stays old more before new is grown =
    let longer : length old ≤ length before = omega (arith, ap length is, length-append old more) in
    sym (take-take (length old) (length before) new longer) ∙ ap (take (length old)) (grown ∙ is) ∙ take-append_seam old more
