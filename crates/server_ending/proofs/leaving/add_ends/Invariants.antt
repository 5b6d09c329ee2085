use Rattle.std.proofs.Common.{◌≡◌, map}
use Rattle.std.specs.List.{fold}
use Rattle.server_result.specs.Images.{with_images}
use Rattle.server_ending.proofs.leaving.add_ends.Given as goal

-- with those of the sessions that are left it comes to all
abbrev pub invariant-loop-end : goal.invariant-loop-end
invariant-loop-end l = fold with_images l.images (map (λ e. e.images) l.end-iterator.rest.items) ≡ fold with_images l.initial.images (map (λ e. e.images) l.fn.ends.items)
