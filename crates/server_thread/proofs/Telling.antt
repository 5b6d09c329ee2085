-- What is still known, and of what was written.
use Rattle.std.proofs.Common.{◌∙◌}
use Rattle.spec_protocol.specs.Seats.{SeatState}
use Rattle.server_thread.specs.Seated.{HasSameKnowledge}

pub knows_on : (s t u : SeatState) → HasSameKnowledge s t → HasSameKnowledge t u → HasSameKnowledge s u
knows_on s t u a b = record { known = b.known ∙ a.known; written = b.written ∙ a.written }
