use Rattle.std.proofs.Common.{sym, subst, ℕ, List}
use Rattle.format_image.specs.ImageBytes.{IsSpellingOf}
use Rattle.spec_verify.proofs.Judged.{of_spelling, of_none}
use Rattle.audit_definitions.proofs.Verdicts.{same_ok}
use Rattle.audit_verify.proofs.workers.verify.Goals as goal

pub returns-in-Some : goal.returns-in-Some
returns-in-Some g c =
    let h = g.H.Hash32.digest c.args.hasher in
    let ds = c.args.digests.now in
    let found = rw (c.in-Some.is, c.deref.ensures.value) at c.in_ok-read.ensures.found in
    same_ok _ _ _ (sym (of_spelling h ds c.args.bytes.items c.in-Some.image found.0 found.1)) c.verify_image_with_workers.ensures

pub returns-in-None : goal.returns-in-None
returns-in-None g c =
    let h = g.H.Hash32.digest c.args.hasher in
    sym (of_none h c.args.digests.now c.args.bytes.items (rw c.deref.ensures.value at c.image_in.ensures.bytes) (λ i is same. (let one = c.in_ok-read.ensures.only i is (subst (λ (b : List ℕ). IsSpellingOf b i) (sym c.deref.ensures.value) same) in let none = c.in-None.is in cc)))
