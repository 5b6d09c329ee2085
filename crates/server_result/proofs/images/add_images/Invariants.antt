use Rattle.std.proofs.Common.{◌≡◌}
use Rattle.server_result.specs.Images.{with_images}
use Rattle.server_result.proofs.images.add_images.Given as goal

-- with those that are left it comes to all
abbrev pub invariant-loop-image : goal.invariant-loop-image
invariant-loop-image l = with_images l.images l.image-iterator.rest.items ≡ with_images l.fn.images l.fn.more
