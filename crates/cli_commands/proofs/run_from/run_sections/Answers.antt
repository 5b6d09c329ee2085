use Rattle.format_sections.specs.RunSections.{run_sections_view}
use Rattle.cli_commands.proofs.GoesOnLemmas.{sections_come, sections_savable_behind}
use Rattle.cli_commands.proofs.run_from.run_sections.Goals as goal

pub returns-in-Ok-clause-run : goal.returns-in-Ok-clause-run
returns-in-Ok-clause-run g c J starts =
    let r = c.in-Ok.ensures in
    record {
      said = run_sections_view c.in_ok-all_sections.all_sections;
      within = c.in_ok-all_sections.ensures.says;
      came = sections_come _ _ _ J _ _ starts c.in-Ok.ran _ c.as_str.ensures.value _ r.0 r.1 r.2;
    }

pub returns-in-Ok-clause-savable : goal.returns-in-Ok-clause-savable
returns-in-Ok-clause-savable g c =
    sections_savable_behind _ _ _ _ _ _ (returns-in-Ok-clause-run g c c.requires.starts.0 c.requires.starts.1).came
