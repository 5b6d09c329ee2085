use Rattle.spec_syntax.specs.Text.{statement_of}
use Rattle.law_catalog_text.proofs.laws.journals_of_the_grammar_encode_definitions.Goals as goal

pub returns-clause-spelled : goal.returns-clause-spelled
returns-clause-spelled c = λ reads items m keeps legal.
    c.legal_journals_encode_definitions.ensures.spelled reads items m
    (c.readings_of_the_grammar_give_written.ensures.written reads keeps) legal

pub returns-clause-holds : goal.returns-clause-holds
returns-clause-holds c = λ reads items m keeps legal.
    c.legal_journals_encode_definitions.ensures.holds reads items m
    (c.readings_of_the_grammar_give_written.ensures.written reads keeps) legal

pub returns-clause-parsed : goal.returns-clause-parsed
returns-clause-parsed c = λ items m legal.
    c.legal_journals_encode_definitions.ensures.holds statement_of items m
    (c.readings_of_the_grammar_give_written.ensures.written statement_of c.readings_of_the_grammar_give_written.ensures.parser) legal
