use Rattle.law_headline.proofs.Bound.{are_bound}
use Rattle.law_headline.proofs.laws.accepted_images_are_bound.Goals as goal

pub returns : goal.returns
returns c = are_bound c.equal_leaves_are_of_equal_events.ensures.equal
