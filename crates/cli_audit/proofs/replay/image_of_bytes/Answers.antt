use Rattle.std.proofs.lemmas.Result.{err_from_is_err_and}
use Rattle.spec_syntax.specs.Text.{reading_of}
use Rattle.cli_audit.proofs.ReplayLemmas.{image_made, no_image, lacks_journal}
use Rattle.cli_audit.proofs.replay.image_of_bytes.Goals as goal

pub returns-in_err-journal-clause-lacks : goal.returns-in_err-journal-clause-lacks
returns-in_err-journal-clause-lacks g c =
    let p = err_from_is_err_and c.from_residual.result c.from_residual.ensures.1 in
    rw (p.1, p.2) (lacks_journal c.in_err-journal.field-0.0 c.args.bytes.now c.in_err-journal.ensures.refused)

pub returns-clause-image : goal.returns-clause-image
returns-clause-image g c =
    image_made (g.H.Hash32.digest c.args.h) c.in_ok-journal.journal c.args.bytes.now c.run_again-image.result c.images_of_legal_journals_verify.ensures.written
    (c.readings_of_the_grammar_give_written.ensures.written (reading_of c.in_ok-journal.journal.version)
    (c.readings_of_the_grammar_give_written.ensures.versions c.in_ok-journal.journal.version))
    c.in_ok-journal.ensures.spelled c.run_again-image.ensures.legal c.run_again-image.ensures.made c.run_again-image.ensures.spelling

pub returns-clause-lacks : goal.returns-clause-lacks
returns-clause-lacks g c =
    no_image c.run_again-image.result c.in_ok-journal.journal c.args.bytes.now c.in_ok-journal.ensures.spelled c.run_again-image.ensures.illegal
