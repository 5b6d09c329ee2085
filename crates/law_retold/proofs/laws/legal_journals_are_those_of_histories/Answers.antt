use Rattle.std.proofs.Common.{[]}
use Rattle.law_retold.proofs.Tellings.{all_goes, leads}
use Rattle.law_retold.proofs.laws.legal_journals_are_those_of_histories.Goals as goal

pub returns : goal.returns
returns c = record {
  good = λ reads h q real words are database J count legal may. (all_goes reads h q real words are database J count legal may).good;
  leads = λ reads h q real words are J count legal may. leads reads h q real words are [] J count legal may;
}
