use Rattle.std.proofs.Common.{arith}
use Rattle.base_sha256.proofs.Steps.{rounds_at}
use Rattle.base_sha256.proofs.rounds.four_later_rounds.Goals as goal

pub returns : goal.returns
returns c = λ b h done.
    let s1 = c.later_round-v.ensures b h done in
    let s2 = c.later_round-v-2.ensures b h s1 in
    let s3 = c.later_round-v-3.ensures b h (rounds_at b h _ _ _ _ (omega arith) s2) in
    let s4 = c.later_round.ensures b h (rounds_at b h _ _ _ _ (omega arith) s3) in
    rounds_at b h _ _ _ _ (omega arith) s4
