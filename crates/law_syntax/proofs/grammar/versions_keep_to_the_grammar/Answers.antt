use Rattle.law_syntax.proofs.VersionsRead.{read_in, reads_in}
use Rattle.law_syntax.proofs.grammar.versions_keep_to_the_grammar.Goals as goal

pub returns-clause-sound : goal.returns-clause-sound
returns-clause-sound c = λ version text s is. c.parsing_keeps_to_the_grammar.ensures.sound text s (read_in version text s is).0

pub returns-clause-complete : goal.returns-clause-complete
returns-clause-complete c = λ version text s is had. reads_in version text s (c.parsing_keeps_to_the_grammar.ensures.complete text s is) had

pub returns-clause-had : goal.returns-clause-had
returns-clause-had c = λ version text s is. (read_in version text s is).1
