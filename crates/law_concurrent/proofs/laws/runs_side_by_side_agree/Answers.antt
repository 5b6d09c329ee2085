use Rattle.spec_history.specs.Lists.{In}
use Rattle.law_behind.specs.Past.{no_past}
use Rattle.law_concurrent.proofs.Comes.{came_to_first, comes_to, left_first}
use Rattle.law_concurrent.proofs.laws.runs_side_by_side_agree.Goals as goal

pub returns : goal.returns
returns c =
    let without = c.without_a_past_nothing_else_is_meant.ensures in
    let came = comes_to c.statements_have_one_meaning_behind_a_past.ensures c.statements_have_one_meaning.ensures.facts
    c.images_of_legal_journals_verify.ensures.whole c.digests_are_held_where_their_blocks_are_closed.ensures.agreed in
    λ h database size moments input r x. came_to_first without.agree h database size (λ time. In time moments) input r
    (came h database size no_past (λ time. In time moments) input r
    (left_first c.runs_of_joined_seats_agree.ensures without.agree without.one_order h database size (λ time. In time moments) input r x))
