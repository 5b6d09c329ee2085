use Rattle.spec_model.specs.Journals.{cut}
use Rattle.spec_syntax.specs.Text.{statement_of}
use Rattle.law_journal.proofs.Serials.{cut_legal}
use Rattle.server_reader.proofs.law.images_of_cuts_are_encodable.Goals as goal

pub returns : goal.returns
returns c = λ h j m legal room.
    let read = c.readings_of_the_grammar_give_written.ensures in
    c.legal_images_are_encodable.ensures h statement_of j.database (cut j.items m) (read.written statement_of read.parser)
    (cut_legal statement_of j.items m legal.legal)
    (c.cuts_have_room_where_journals_have.ensures h statement_of j.database j.items m legal.legal room)
