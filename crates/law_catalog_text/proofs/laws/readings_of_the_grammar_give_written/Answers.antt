use Rattle.sql_types.specs.declared.journal.TheConstants.{JOURNAL_VERSION}
use Rattle.law_catalog_text.proofs.OfParsed.{parsed_written}
use Rattle.law_catalog_text.proofs.laws.readings_of_the_grammar_give_written.Goals as goal

pub returns-clause-written : goal.returns-clause-written
returns-clause-written c = λ reads keeps text stmt is.
    parsed_written stmt
    (c.printing_is_read_back.ensures.parsed text stmt
    (c.parsing_keeps_to_the_grammar.ensures.complete text stmt (keeps text stmt is)))

pub returns-clause-versions : goal.returns-clause-versions
returns-clause-versions c = c.versions_keep_to_the_grammar.ensures.sound

pub returns-clause-parser : goal.returns-clause-parser
returns-clause-parser c = c.versions_keep_to_the_grammar.ensures.sound JOURNAL_VERSION
