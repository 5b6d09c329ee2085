use Rattle.law_accepts.proofs.Whole.{held_at, issued_at}
use Rattle.law_accepts.proofs.laws.digests_are_held_where_their_blocks_are_closed.Goals as goal

pub returns : goal.returns
returns c = record { issued = issued_at; agreed = held_at }
