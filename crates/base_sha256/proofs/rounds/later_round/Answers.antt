use Rattle.std.proofs.Common.{◌+◌, ◌-◌, ◌*◌, ◌%◌, arith, refl}
use Rattle.sha2.specs.Sha256.{rounds, schedule}
use Rattle.base_sha256.proofs.Steps.{rounds_at, round_more, window_at, window_next, words_at, words_next}
use Rattle.base_sha256.proofs.rounds.later_round.Goals as goal

pub returns : goal.returns
returns c = λ b h done.
    let w = c.args.w.now in
    let p = c.args.place in
    let t = 16 * c.args.turn + p in
    let e2 = window_at b w t 14 (t - 2) ((p + 14) % 16) done.window (omega arith) (omega arith) (omega arith) in
    let e7 = window_at b w t 9 (t - 7) ((p + 9) % 16) done.window (omega arith) (omega arith) (omega arith) in
    let e15 = window_at b w t 1 (t - 15) ((p + 1) % 16) done.window (omega arith) (omega arith) (omega arith) in
    let e16 = window_at b w t 0 (t - 16) p done.window (omega arith) (omega arith) (omega arith) in
    let word = words_next b t _ (omega arith) (omega arith) (c.next_word-word.ensures (words_at b (t - 2)) (words_at b (t - 7)) (words_at b (t - 15)) (words_at b (t - 16)) e2 e7 e15 e16) in
    rounds_at b h _ _ (t + 1) _ (omega arith) record {
      window = window_next b w t p _ (omega arith) (omega arith) done.window word;
      variables = round_more b h t _ _ refl (c.round.ensures (λ i. rounds (h i) (schedule (b i) 48) t) (words_at b t) done.variables word);
    }
