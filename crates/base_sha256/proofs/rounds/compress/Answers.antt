use Rattle.std.proofs.Common.{rules, ◌≡◌, [], refl, inl, inr, ◌*◌, ◌∙◌, arith}
use Rattle.std.proofs.lemmas.List.{get_or-set_same, get_or-set_other}
use Rattle.std.proofs.lemmas.Bool.{cases_lt}
use Rattle.sha2.specs.Sha256.{compress, rounds}
use Rattle.base_sha256.specs.Lanes.{block}
use Rattle.base_sha256.specs.Rounds.{after_rounds}
use Rattle.base_sha256.proofs.Steps.{rounds_at, window_first}
use Rattle.base_sha256.proofs.rounds.compress.Goals as goal

pub words-preserved : goal.words-preserved
words-preserved c = (
  search rules,
  λ k lt. elim (cases_lt k c.words.i) [
    | inl a ↦ get_or-set_other c.words.w c.words.i k c.load.result [] (omega arith) ∙ c.words.invariant.1 k a
    | inr b ↦
        let e : c.words.i ≡ k = omega arith in
        rw (← e) (get_or-set_same c.words.w c.words.i c.load.result [] (omega arith) ∙ c.load.ensures)
  ],
)

pub turns-init : goal.turns-init
unfolding rounds
turns-init c = λ h held.
    let b = block c.args.blocks.now in
    let window = window_first b c.words.w c.words.invariant.0 (λ k lt. c.words.invariant.1 k (omega arith)) in
    let s1 = c.four_first_rounds-v.ensures b h window held in
    let s2 = c.four_first_rounds-v-2.ensures b h window s1 in
    let s3 = c.four_first_rounds-v-3.ensures b h window s2 in
    record { window = window; variables = c.four_first_rounds-v-4.ensures b h window s3 }

pub turns-preserved : goal.turns-preserved
turns-preserved c = λ h held.
    let b = block c.args.blocks.now in
    let s1 = c.four_later_rounds-v.ensures b h (rounds_at b h _ _ _ _ (omega arith) (c.turns.invariant h held)) in
    let s2 = c.four_later_rounds-v-in-turns.ensures b h s1 in
    let s3 = c.four_later_rounds-v-in-turns-2.ensures b h s2 in
    let s4 = c.four_later_rounds-v-in-turns-3.ensures b h s3 in
    rounds_at b h _ _ _ _ (omega arith) s4

pub returns : goal.returns
unfolding compress
returns c = λ h held.
    let b = block c.args.blocks.now in
    let done : 16 * c.turns.turn ≡ 64 = omega (arith, c.turns.auto.turn-end (omega arith)) in
    let v : c.turns.v ≡ after_rounds b h 64 = rw done at (c.turns.invariant h held).variables in
    rw (held, v) refl
