use Rattle.std.proofs.Common.{arith, refl}
use Rattle.sha2.specs.Sha256.{rounds, schedule}
use Rattle.base_sha256.proofs.Steps.{round_more, window_at, words_at}
use Rattle.base_sha256.proofs.rounds.first_round.Goals as goal

pub returns : goal.returns
returns c = λ b h window held.
    let t = c.args.t in
    let word = window_at b c.args.w.now 16 t t t window c.requires (omega arith) (omega arith) in
    round_more b h t _ _ refl (c.round.ensures (λ i. rounds (h i) (schedule (b i) 48) t) (words_at b t) held word)
