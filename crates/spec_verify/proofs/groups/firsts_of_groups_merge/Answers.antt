use Rattle.spec_verify.proofs.Merged.{first_of_groups}
use Rattle.spec_verify.proofs.groups.firsts_of_groups_merge.Goals as goal

pub returns : goal.returns
returns g c = λ cmp f h elements. first_of_groups cmp f h elements
