use Rattle.format_image.proofs.ImageExact.{equal_images, one_prefix}
use Rattle.format_image.proofs.laws.equal_bytes_are_of_equal_images.Goals as goal

pub returns : goal.returns
returns c = record { equal = equal_images; prefix = one_prefix }
