use Rattle.std.proofs.Common.{arith, refl}
use Rattle.sql_types.specs.declared.journal.TheConstants.{JOURNAL_VERSION}
use Rattle.workload_generator.specs.Workload.{create_text, insert_text, update_text}
use Rattle.law_workload.specs.Statements.{create_statement, insert_statement, update_statement}
use Rattle.law_workload.proofs.Readings.{create_read, insert_read, update_read}
use Rattle.law_workload.proofs.texts.texts_are_read.Goals as goal

pub returns-clause-create : goal.returns-clause-create
returns-clause-create c = λ table some few.
    c.versions_keep_to_the_grammar.ensures.complete JOURNAL_VERSION (create_text table) (create_statement table) (create_read table some few) refl

pub returns-clause-insert : goal.returns-clause-insert
returns-clause-insert c = λ table row some few small.
    c.versions_keep_to_the_grammar.ensures.complete JOURNAL_VERSION (insert_text table row) (insert_statement table row)
    (insert_read c.literals_are_read_back.ensures.written table row some few (omega (arith, small))) refl

pub returns-clause-update : goal.returns-clause-update
returns-clause-update c = λ table row some few small.
    c.versions_keep_to_the_grammar.ensures.complete JOURNAL_VERSION (update_text table row) (update_statement table row)
    (update_read c.literals_are_read_back.ensures.written table row some few (omega (arith, small))) refl
