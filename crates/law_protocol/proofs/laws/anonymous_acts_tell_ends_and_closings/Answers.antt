use Rattle.spec_history.specs.Worlds.{first}
use Rattle.law_protocol.proofs.AnonymousActsTell.{same_closings, same_ends}
use Rattle.law_protocol.proofs.laws.anonymous_acts_tell_ends_and_closings.Goals as goal

pub returns : goal.returns
returns c = record {
  ends = λ h g e. same_ends first first h g e;
  closings = λ h g e N due. same_closings N h g e due;
}
