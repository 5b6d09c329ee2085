use Rattle.format_sections.specs.RunSections.{run_sections_view}
use Rattle.cli_commands.proofs.SavedLemmas.{sections_savable}
use Rattle.cli_commands.proofs.run.run_sections.Goals as goal

pub returns-in-Ok-clause-run : goal.returns-in-Ok-clause-run
returns-in-Ok-clause-run g c =
    let r = c.in-Ok.ensures in
    record {
      said = run_sections_view c.in_ok-all_sections.all_sections;
      within = c.in_ok-all_sections.ensures.says;
      came = record { left = r.0; came = r.1; is = r.2 };
    }

pub returns-in-Ok-clause-savable : goal.returns-in-Ok-clause-savable
returns-in-Ok-clause-savable g c = sections_savable _ _ _ _ _ (returns-in-Ok-clause-run g c).came
