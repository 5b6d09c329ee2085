use Rattle.cli_commands.specs.Input.{section_form}
use Rattle.cli_commands.proofs.AnswerLemmas.{cause_by, ran_within}
use Rattle.cli_commands.proofs.run_from.run_and_save.Goals as goal

pub returns-clause-cause : goal.returns-clause-cause
returns-clause-cause g c =
    let is = c.in-Ok.ensures.run c.requires.starts.0 c.requires.starts.1 in
    cause_by section_form c.save_and_write.result _ _ _ (is.said, is.within) c.save_and_write.ensures.cause

pub returns-clause-ran : goal.returns-clause-ran
returns-clause-ran g c J starts =
    let is = c.in-Ok.ensures.run J starts in
    ran_within c.save_and_write.result _ _ _ (λ saved. record {
      said = is.said;
      output = c.in-Ok.ran;
      within = is.within;
      came = is.came;
      saved = saved;
    }) c.save_and_write.ensures.saved
