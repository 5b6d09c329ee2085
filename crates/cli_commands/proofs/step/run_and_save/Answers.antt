use Rattle.cli_commands.proofs.AnswerLemmas.{ran_within}
use Rattle.cli_commands.proofs.step.run_and_save.Goals as goal

pub returns-clause-ran : goal.returns-clause-ran
returns-clause-ran g c =
    let is = c.in-Ok.ensures.run in
    ran_within c.save_and_write.result _ _ _ (λ saved. record {
      said = is.said;
      output = c.in-Ok.ran;
      within = is.within;
      came = is.came;
      saved = saved;
    }) c.save_and_write.ensures.saved
