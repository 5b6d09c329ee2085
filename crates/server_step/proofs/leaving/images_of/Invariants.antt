use Rattle.std.proofs.Common.{◌≡◌, map}
use Rattle.std.specs.List.{fold}
use Rattle.server_result.specs.Images.{with_each, with_images}
use Rattle.server_step.proofs.leaving.images_of.Given as goal

-- with those of the sessions that are left it comes to all
abbrev pub invariant-loop-session : goal.invariant-loop-session
invariant-loop-session g l = fold with_images l.images (map (λ y. y.images) l.session-iterator.rest.items) ≡ with_each (map (λ y. y.images) l.fn.sessions.items)
