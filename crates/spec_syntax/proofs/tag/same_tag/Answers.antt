use Rattle.std.proofs.Common.{rules, sym, ◌∙◌}
use denote.Enum.Bare.{same_true}
use Rattle.spec_syntax.specs.contracts.tag.Tag.{the_type}
use Rattle.spec_syntax.specs.Tags.{same_tag}
use Rattle.spec_syntax.proofs.tag.same_tag.Goals as goal

pub returns-clause-value : goal.returns-clause-value
unfolding same_tag
returns-clause-value c = search rules

pub returns-clause-same : goal.returns-clause-same
returns-clause-same c is = same_true the_type (search rules) _ _ (sym c.eq.ensures ∙ is)
