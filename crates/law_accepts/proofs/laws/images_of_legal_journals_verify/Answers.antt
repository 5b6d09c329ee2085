use Rattle.spec_model.specs.Journals.{cut}
use Rattle.spec_syntax.specs.Text.{statement_of}
use Rattle.law_journal.proofs.Serials.{cut_legal}
use Rattle.law_accepts.proofs.RoomOfCuts.{room_of_cut}
use Rattle.law_accepts.proofs.Whole.{verifies, verifies_1}
use Rattle.law_accepts.proofs.laws.images_of_legal_journals_verify.Goals as goal

pub returns : goal.returns
returns c =
    let read = c.readings_of_the_grammar_give_written.ensures in
    let written = read.written statement_of read.parser in
    record {
      parsed = λ h j m digests legal all_held is_image. verifies h statement_of j m digests written legal all_held is_image;
      room = λ h j m digests legal all_held room.
          verifies h statement_of j m digests written legal all_held
          (c.legal_images_are_encodable.ensures h statement_of j.database (cut j.items m) written
          (cut_legal statement_of j.items m legal.legal) room);
      whole = λ h j m digests legal room all_held.
          verifies h statement_of j m digests written legal all_held
          (c.legal_images_are_encodable.ensures h statement_of j.database (cut j.items m) written
          (cut_legal statement_of j.items m legal.legal)
          (room_of_cut h statement_of j.database j.items m legal.legal room));
      written = verifies;
      first = verifies_1;
    }
