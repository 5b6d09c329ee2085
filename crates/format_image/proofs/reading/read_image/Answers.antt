use Rattle.std.proofs.Common.{◌∙◌, arith}
use Rattle.format_image.specs.ImageReading.{image_at}
use Rattle.format_image.proofs.ImageExact.{found_of, only_of}
use Rattle.format_image.proofs.reading.read_image.Goals as goal

pub returns-clause-found : goal.returns-clause-found
returns-clause-found c =
    found_of c.args.bytes.now c.in_ok-found.found (λ i. omega (arith, c.type_inv.bytes i)) (c.in_ok-found.ensures.ok image_at c.args.bytes.now c.image_at.ensures)

pub returns-clause-only : goal.returns-clause-only
returns-clause-only c = λ i is same. c.in_ok-found.ensures.ok image_at c.args.bytes.now c.image_at.ensures ∙ only_of c.args.bytes.now i is same
