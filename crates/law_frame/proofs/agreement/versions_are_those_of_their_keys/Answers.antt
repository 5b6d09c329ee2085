use Rattle.law_frame.proofs.ByKeys.{by_keys}
use Rattle.law_frame.proofs.agreement.versions_are_those_of_their_keys.Goals as goal

pub returns : goal.returns
returns c = by_keys
