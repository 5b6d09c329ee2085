use Rattle.std.proofs.Common.{◌≤◌, ℕ, length, sym, ap, subst, ◌∙◌}
use Rattle.std.specs.Prelude.{nat_lt}
use Rattle.std.proofs.lemmas.List.Sums.{prefix_len-le-length}
use Rattle.server_result.specs.Images.{place_for}
use Rattle.server_result.proofs.images.add_image.Goals as goal

pub insert-requires : goal.insert-requires
insert-requires c =
    subst (λ (n : ℕ). n ≤ length c.args.images.now) (sym (c.place_for-place.ensures ∙ ap (place_for c.args.image.0) c.as_slice.ensures))
    (prefix_len-le-length (λ k. nat_lt k.0 c.args.image.0) c.args.images.now)
