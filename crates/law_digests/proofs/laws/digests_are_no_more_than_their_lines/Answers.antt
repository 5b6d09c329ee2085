use Rattle.std.proofs.Common.{◌∙◌, sym}
use Rattle.law_digests.proofs.Answered.{digests_cost}
use Rattle.law_digests.proofs.laws.digests_are_no_more_than_their_lines.Goals as goal

pub returns : goal.returns
returns c = λ q database input setup X J G reads agree.
    digests_cost q database input setup X J G (λ text is. c.digest_statements_have_their_length.ensures text (sym (reads text) ∙ is)) agree
