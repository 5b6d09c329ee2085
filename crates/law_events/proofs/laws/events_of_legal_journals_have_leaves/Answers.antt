use Rattle.spec_model.specs.Journals.{serial}
use Rattle.law_events.proofs.Leaves.{all_leaves}
use Rattle.law_events.proofs.laws.events_of_legal_journals_have_leaves.Goals as goal

pub returns : goal.returns
returns c = λ reads items tx legal.
    all_leaves items tx (serial reads items)
    (c.legal_journals_keep.ensures.tables reads items legal)
    (c.legal_journals_keep.ensures.described reads items legal)
