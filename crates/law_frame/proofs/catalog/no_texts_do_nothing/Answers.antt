use Rattle.law_frame.proofs.Definitions as laws
use Rattle.law_frame.proofs.catalog.no_texts_do_nothing.Goals as goal

pub returns : goal.returns
returns c = laws.nothing_done
