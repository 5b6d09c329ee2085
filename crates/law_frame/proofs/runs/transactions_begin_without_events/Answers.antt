use Rattle.law_frame.proofs.NoEvents.{no_events}
use Rattle.law_frame.proofs.runs.transactions_begin_without_events.Goals as goal

pub returns : goal.returns
returns c = λ T tx h. no_events tx T h.each
