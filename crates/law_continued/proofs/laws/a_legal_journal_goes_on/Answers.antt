use Rattle.law_continued.proofs.GoesOn.{none_asked, none_wanted, stands}
use Rattle.law_continued.proofs.laws.a_legal_journal_goes_on.Goals as goal

pub returns : goal.returns
returns c = record {
  stands = λ v w database size some_size most_size J count words legal may. stands v w database size J count words legal may some_size most_size;
  asked = λ v w database size J count st. none_asked v w database size J count st;
  wanted = λ v w database size J count. none_wanted v w database size J count;
}
