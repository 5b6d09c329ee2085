-- What code answers that may lack memory, where it answers what is meant.
use Rattle.std.proofs.Common.{◌≡◌, Ok, Err}
use Rattle.spec_model.specs.Refusals.{Checked, MatchesUnlessOom}

pub gives_itself : {A : Type 0} (meant r : Checked A) → meant ≡ r → MatchesUnlessOom meant r
gives_itself meant (Ok a) e = e
gives_itself meant (Err x) e = λ _. e
