use Rattle.std.proofs.Common.{◌≡◌, ◌∙◌, ℕ, List, map, length, ap, ap₂, sym, arith}
use Rattle.std.specs.List.{fold}
use Rattle.std.proofs.lemmas.List.{length-map}
use Rattle.base_types.specs.declared.blob.Blob.{Blob}
use Rattle.server_engine.specs.declared.session.Session.{Session}
use Rattle.server_result.specs.Images.{with_images}
use Rattle.server_result.proofs.Joins.{nothing_left}
use Rattle.server_step.proofs.leaving.images_of.Goals as goal

pub loop-session-init : goal.loop-session-init
loop-session-init g c =
    ap₂ (λ (b : List (ℕ × Blob)) (ys : List (Session g.row.H.Denot)). fold with_images b (map (λ y. y.images) ys)) c.new-images.ensures c.into_iter-session-iterator.ensures.into_iter_gives.0

pub loop-session-preserved : goal.loop-session-preserved
loop-session-preserved g c =
    ap (λ (b : List (ℕ × Blob)). fold with_images b (map (λ (y : Session g.row.H.Denot). y.images) c.next.new.self.rest.items)) c.in_ok-add_images.ensures
    ∙ ap (λ (ks : List (ℕ × Blob)). fold with_images (with_images c.loop-session.images ks) (map (λ (y : Session g.row.H.Denot). y.images) c.next.new.self.rest.items)) c.kept_by.ensures
    ∙ ap (λ (ys : List (Session g.row.H.Denot)). fold with_images c.loop-session.images (map (λ y. y.images) ys)) (sym c.in-Some.ensures.steps.0)
    ∙ c.loop-session.invariant

pub returns : goal.returns
returns g c =
    let rest = c.loop-session.session-iterator.rest in
    let kept = map (λ (y : Session g.row.H.Denot). y.images) rest.items in
    let none : length kept ≡ 0 = length-map rest.items (λ (y : Session g.row.H.Denot). y.images) ∙ omega (arith, c.in-None.ensures.steps.0, rest.ok.0) in
    nothing_left with_images c.loop-session.images kept none ∙ c.loop-session.invariant
