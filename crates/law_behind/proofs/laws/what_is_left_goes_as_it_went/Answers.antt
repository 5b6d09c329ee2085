use Rattle.law_behind.proofs.Without.{alone_without, below_without, closes_without, ends_without, lines_without, locks_without, of_without}
use Rattle.law_behind.proofs.laws.what_is_left_goes_as_it_went.Goals as goal

pub returns : goal.returns
returns c = record {
  parts = λ q database count history w v is good n. of_without q database count n history w v is good;
  below = λ q database count history w v is good k. below_without q database count k history w v is good;
  one_at_a_time = λ q database count history w v is good. alone_without q database count history w v is good;
  lines = λ q database count history w v is good. lines_without q database count history w v is good;
  ends = λ q database count history w v is good. ends_without q database count history w v is good;
  closings = λ count N due history. closes_without count N due history;
  locks = λ q database count history w v is good k. locks_without q database count k history w v is good;
}
