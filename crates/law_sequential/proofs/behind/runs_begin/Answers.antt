use Rattle.law_sequential.proofs.Begins.{with_a_journal, with_none}
use Rattle.law_sequential.proofs.behind.runs_begin.Goals as goal

pub returns : goal.returns
returns c =
    let starts = c.a_server_starts.ensures.with_a_journal in
    record {
      with_a_journal = with_a_journal starts c.a_journal_that_goes_on_keeps_its_forms.ensures;
      with_none = with_none starts;
    }
