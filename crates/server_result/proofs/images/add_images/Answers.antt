use Rattle.std.proofs.Common.{◌∙◌, ℕ, List, ap, sym, arith}
use Rattle.base_types.specs.declared.blob.Blob.{Blob}
use Rattle.server_result.specs.Images.{with_image, with_images}
use Rattle.server_result.proofs.Joins.{nothing_left}
use Rattle.server_result.proofs.images.add_images.Goals as goal

pub loop-image-init : goal.loop-image-init
loop-image-init c = ap (λ (more : List (ℕ × Blob)). with_images c.args.images.now more) (c.into_iter-image-iterator.ensures.into_iter_gives.0 ∙ c.into_vec-image-items.ensures)

pub loop-image-preserved : goal.loop-image-preserved
loop-image-preserved c =
    ap (λ (images : List (ℕ × Blob)). with_images images c.next.new.self.rest.items) c.in_ok-add_image.ensures
    ∙ ap (λ (more : List (ℕ × Blob)). with_images c.loop-image.images more) (sym c.in-Some.ensures.steps.0)
    ∙ c.loop-image.invariant

pub returns : goal.returns
returns c =
    let rest = c.loop-image.image-iterator.rest in
    nothing_left with_image c.loop-image.images rest.items (omega (arith, c.in-None.ensures.steps.0, rest.ok.0)) ∙ c.loop-image.invariant
