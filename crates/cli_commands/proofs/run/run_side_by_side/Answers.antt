use Rattle.cli_commands.specs.Input.{section_form}
use Rattle.cli_commands.proofs.AnswerLemmas.{read_told, ran_within, bytes_came, cause_came}
use Rattle.cli_commands.proofs.CallLemmas.{reads_whole}
use Rattle.cli_commands.proofs.run.run_side_by_side.Goals as goal

pub returns-clause-cause : goal.returns-clause-cause
returns-clause-cause g c = cause_came section_form c.run_and_save.result _ _ _ _ _ c.in-Ok.input _ c.in-Ok.ensures.came c.deref.ensures.value c.run_and_save.ensures.cause

pub returns-clause-read : goal.returns-clause-read
returns-clause-read g c = read_told section_form c.run_and_save.result _ _ _ _ _ c.in-Ok.input c.run_and_save.ensures.cause c.in-Ok.ensures.came

pub returns-clause-ran : goal.returns-clause-ran
returns-clause-ran g c =
    ran_within c.run_and_save.result _ _ _ (λ ran. record {
      said = ran.said;
      output = ran.output;
      within = bytes_came _ _ c.in-Ok.input _ _ c.in-Ok.ensures.came c.deref.ensures.value ran.within;
      came = ran.came;
      saved = ran.saved;
    }) c.run_and_save.ensures.ran

pub returns-clause-reads : goal.returns-clause-reads
returns-clause-reads g c = reads_whole section_form c.run_and_save.result _ _ _ c.in-Ok.input _ _ c.run_and_save.ensures.cause c.in-Ok.ensures.reads
