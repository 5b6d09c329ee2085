use Rattle.std.proofs.Common.{[], ◌∷◌, refl, inr}
use Rattle.server_ending.proofs.closing.issue_last.Goals as goal

pub returns-in-Ok : goal.returns-in-Ok
returns-in-Ok g c = let i = rw c.in-Ok.is at c.digest.ensures.ok in (i.digest ∷ [], inr (_, i, refl))
