use Rattle.law_continued.proofs.Starts.{starts, starts_first}
use Rattle.law_continued.proofs.laws.a_server_starts.Goals as goal

pub returns : goal.returns
returns c = record {
  with_a_journal = λ v w database size some_size most_size J count words legal may few. starts v w database size some_size most_size J count words legal may few;
  with_none = λ v database size some_size most_size. starts_first v database size some_size most_size;
}
