use Rattle.spec_model.specs.Query.{selected}
use Rattle.sql_select.proofs.selecting.select.Goals as goal

pub returns : goal.returns
unfolding selected
returns c = rw c.in_ok-taken.ensures c.show_matching.ensures
