use Rattle.std.proofs.Common.{subst}
use Rattle.spec_history.specs.Lists.{Text}
use Rattle.spec_history.specs.SoFar.{AgreeSoFar}
use Rattle.spec_history.specs.Worlds.{first, run}
use Rattle.law_history.proofs.SoFar.{so_far}
use Rattle.law_protocol.proofs.SinceFirst.{since_first}
use Rattle.law_protocol.proofs.laws.whatever_happens_agrees.Goals as goal

pub returns : goal.returns
returns g = record {
  stands = λ v database size some most cells seats steps. (since_first v database size some most cells seats steps).later;
  agrees = λ v database size some most cells seats steps.
      let w = since_first v database size some most cells seats steps in
      (w.later, subst (λ (db : Text). AgreeSoFar v.meaning db (run first w.later.history)) w.same_database (so_far v.meaning w.later.stands.ledger.database w.later.history w.later.stands.transcripts_agree.good), w.same_database, w.same_size);
}
