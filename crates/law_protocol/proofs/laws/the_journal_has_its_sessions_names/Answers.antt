use Rattle.std.proofs.Common.{subst}
use Rattle.spec_history.specs.Histories.{HasItsName}
use Rattle.spec_history.specs.Lists.{Each}
use Rattle.law_history.proofs.IdsAssigned.{all_named}
use Rattle.law_protocol.proofs.laws.the_journal_has_its_sessions_names.Goals as goal

pub returns : goal.returns
returns c = λ v history cells seats s. subst (Each (HasItsName history)) s.transcripts_agree.items (all_named v.meaning s.ledger.database history s.transcripts_agree.good)
