use Rattle.std.proofs.Common.{◌≡◌, ◌∙◌, ℕ, List, ap, length, map, inl, inr, ⊎_elim}
use Rattle.sql_types.specs.declared.journal.Journal.{Journal}
use Rattle.spec_model.specs.Journals.{cut, serial}
use Rattle.spec_model.specs.SystemTables.{first_tables}
use Rattle.spec_history.proofs.Trace.{each_weaker}
use Rattle.spec_syntax.specs.Text.{statement_of}
use Rattle.law_journal.proofs.Serials.{cut_legal}
use Rattle.spec_asof.specs.Answer.{answer_of}
use Rattle.format_image.specs.Image.{image_of, image_of_cut}
use Rattle.format_image.specs.Rows.{filled_table}
use Rattle.server_reader.specs.Answered.{AnsweredText, IsAnsweredOver, whole_database}
use Rattle.law_snapshots.proofs.Whole.{entries_are, serial_whole}
use Rattle.law_snapshots.proofs.law.snapshots_are_of_serial_runs.Goals as goal

pub returns-clause-answers : goal.returns-clause-answers
returns-clause-answers c = λ h j m text legal.
    let items = cut j.items m in
    let read = c.readings_of_the_grammar_give_written.ensures in
    let n = length (image_of h statement_of j.database items).entries in
    c.images_tell_earlier_databases.ensures.answers h statement_of j.database items n text (read.written statement_of read.parser) (cut_legal statement_of j.items m legal.legal)
    ∙ ap (λ tables. answer_of tables text)
    (serial_whole statement_of first_tables items n (entries_are h statement_of j.database items ∙ c.entries_and_blocks_are_counted.ensures.entries h statement_of items))

pub returns-clause-tables : goal.returns-clause-tables
returns-clause-tables c = λ h j m legal.
    let items = cut j.items m in
    let read = c.readings_of_the_grammar_give_written.ensures in
    let n = length (image_of h statement_of j.database items).entries in
    c.images_tell_earlier_databases.ensures.tables h statement_of j.database items n (read.written statement_of read.parser) (cut_legal statement_of j.items m legal.legal)
    ∙ ap (map filled_table)
    (serial_whole statement_of first_tables items n (entries_are h statement_of j.database items ∙ c.entries_and_blocks_are_counted.ensures.entries h statement_of items))

pub returns-clause-each : goal.returns-clause-each
returns-clause-each c = λ h j m name texts entries legal over.
    let whole = whole_database (image_of_cut h statement_of j.database j.items m) in
    let meant = serial statement_of (cut j.items m) in record {
      answers = over.answers;
      texts_are = over.texts_are;
      each = each_weaker (IsAnsweredOver whole) (IsAnsweredOver meant)
          (λ (a : AnsweredText) is. ⊎_elim (λ e. inl (e ∙ returns-clause-answers c h j m (statement_of a.0) legal)) (λ e. inr e) is) over.answers over.each;
      is = over.is;
    }
