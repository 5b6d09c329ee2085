use Rattle.law_continued.proofs.Words.{words}
use Rattle.law_continued.proofs.laws.there_are_words.Goals as goal

pub returns : goal.returns
returns c = words c.printing_is_read_back.ensures.read
