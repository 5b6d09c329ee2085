use Rattle.std.proofs.Common.{ap, ◌∙◌}
use Rattle.spec_model.specs.Catalog.{defs_of}
use Rattle.spec_model.specs.Journals.{upto, serial}
use Rattle.spec_syntax.specs.Text.{reading_of}
use Rattle.law_asof.proofs.Answered.{filled_defs}
use Rattle.law_asof.proofs.ToldDatabase.{database_told, text_answered}
use Rattle.law_asof.proofs.laws.images_tell_earlier_databases.Goals as goal

pub returns-clause-definitions : goal.returns-clause-definitions
returns-clause-definitions c = λ h reads database items n written legal.
    ap defs_of (database_told h reads database items n written legal) ∙ filled_defs (serial reads (upto items n))

pub returns-clause-tables : goal.returns-clause-tables
returns-clause-tables c = λ h reads database items n written legal. database_told h reads database items n written legal

pub returns-clause-answers : goal.returns-clause-answers
returns-clause-answers c = λ h reads database items n text written legal. text_answered h reads database items n written legal text

pub returns-clause-versions : goal.returns-clause-versions
returns-clause-versions c = λ h version database items n legal.
    database_told h (reading_of version) database items n
    (c.readings_of_the_grammar_give_written.ensures.written (reading_of version) (c.readings_of_the_grammar_give_written.ensures.versions version)) legal
