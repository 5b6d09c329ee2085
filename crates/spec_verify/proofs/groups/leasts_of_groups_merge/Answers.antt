use Rattle.spec_verify.proofs.Leasts.{least_split}
use Rattle.spec_verify.proofs.groups.leasts_of_groups_merge.Goals as goal

pub returns : goal.returns
returns g c = λ cmp xs ys total. least_split cmp total xs ys
