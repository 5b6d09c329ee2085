use Rattle.spec_syntax.specs.PrintedStmt.{printed}
use Rattle.law_syntax.proofs.StmtSound.{text_sound}
use Rattle.law_syntax.proofs.StmtComplete.{text_complete, text_unique}
use Rattle.law_syntax.proofs.grammar.parsing_keeps_to_the_grammar.Goals as goal

pub returns-clause-sound : goal.returns-clause-sound
returns-clause-sound c = text_sound

pub returns-clause-complete : goal.returns-clause-complete
returns-clause-complete c = text_complete

pub returns-clause-unique : goal.returns-clause-unique
returns-clause-unique c = text_unique

pub returns-clause-printed : goal.returns-clause-printed
returns-clause-printed c = λ text s is. text_sound (printed s) s (c.printing_is_read_back.ensures.again text s (text_complete text s is))
