use Rattle.spec_syntax.specs.Text.{statement_of}
use Rattle.law_headline.specs.Headline.{image_at}
use Rattle.law_headline.proofs.Bound.{cut_is_image}
use Rattle.law_headline.proofs.laws.images_of_legal_journals_are_bound.Goals as goal

pub returns : goal.returns
returns c =
    let read = c.readings_of_the_grammar_give_written.ensures in
    let written = read.written statement_of read.parser in
    λ h J m digests legal room held.
    c.accepted_images_are_bound.ensures h (image_at h J m) digests room.hash
    (cut_is_image c.legal_images_are_encodable.ensures written h J legal room m)
    (c.images_of_legal_journals_verify.ensures.whole h J m digests legal room held)
