use Rattle.std.proofs.Common.{sym, subst, ℕ, List}
use Rattle.format_image.specs.ImageBytes.{IsSpellingOf}
use Rattle.spec_verify.proofs.Judged.{of_none}
use Rattle.audit_answers.proofs.Judged.{ok_of_image}
use Rattle.audit_answers.proofs.coverage.judge.Goals as goal

pub returns-in-Some : goal.returns-in-Some
returns-in-Some g c =
    let found = rw (c.in-Some.is, c.deref.ensures.value) at c.in_ok-read.ensures.found in
    ok_of_image (g.H.Hash32.digest c.args.hasher) c.args.digests.now c.args.bytes.items c.in-Some.image found.0 found.1 c.judge_image.result c.judge_image.ensures

pub returns-in-None : goal.returns-in-None
returns-in-None g c = (
  (λ e. absurd cc),
  sym (of_none (g.H.Hash32.digest c.args.hasher) c.args.digests.now c.args.bytes.items (rw c.deref.ensures.value at c.image_in.ensures.bytes)
      (λ i is same. (let one = c.in_ok-read.ensures.only i is (subst (λ (b : List ℕ). IsSpellingOf b i) (sym c.deref.ensures.value) same) in let none = c.in-None.is in cc))),
)
