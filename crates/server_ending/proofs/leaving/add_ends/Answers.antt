use Rattle.std.proofs.Common.{◌≡◌, ◌∙◌, ℕ, List, map, length, ap, sym, arith}
use Rattle.std.specs.List.{fold}
use Rattle.std.proofs.lemmas.List.{length-map}
use Rattle.base_types.specs.declared.blob.Blob.{Blob}
use Rattle.server_result.specs.Images.{with_images}
use Rattle.server_result.proofs.Joins.{nothing_left}
use Rattle.server_engine.specs.declared.session.SessionEnd.{SessionEnd}
use Rattle.server_ending.proofs.leaving.add_ends.Goals as goal

pub loop-end-init : goal.loop-end-init
loop-end-init c = ap (λ (es : List SessionEnd). fold with_images c.args.images.now (map (λ e. e.images) es)) c.into_iter-end-iterator.ensures.into_iter_gives.0

pub loop-end-preserved : goal.loop-end-preserved
loop-end-preserved c =
    ap (λ (b : List (ℕ × Blob)). fold with_images b (map (λ (e : SessionEnd). e.images) c.next.new.self.rest.items)) c.in_ok-add_images.ensures
    ∙ ap (λ (es : List SessionEnd). fold with_images c.loop-end.images (map (λ e. e.images) es)) (sym c.in-Some.ensures.steps.0)
    ∙ c.loop-end.invariant

pub returns : goal.returns
returns c =
    let rest = c.loop-end.end-iterator.rest in
    let kept = map (λ (e : SessionEnd). e.images) rest.items in
    let none : length kept ≡ 0 = length-map rest.items (λ (e : SessionEnd). e.images) ∙ omega (arith, c.in-None.ensures.steps.0, rest.ok.0) in
    nothing_left with_images c.loop-end.images kept none ∙ c.loop-end.invariant
