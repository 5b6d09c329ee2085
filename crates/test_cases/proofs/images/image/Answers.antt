use Rattle.test_cases.proofs.Found.{is_image}
use Rattle.test_cases.proofs.images.image.Goals as goal

pub image_found-is_one-requires : goal.image_found-is_one-requires
image_found-is_one-requires c = is_image c.args.bytes.now c.in_ok-found.found c.in_ok-found.ensures.found
