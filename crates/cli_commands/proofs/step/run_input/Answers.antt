use Rattle.std.proofs.Common.{map}
use Rattle.format_lines.specs.Line.{seen}
use Rattle.cli_commands.proofs.SavedLemmas.{lines_savable}
use Rattle.cli_commands.proofs.step.run_input.Goals as goal

pub returns-in-Ok-clause-run : goal.returns-in-Ok-clause-run
returns-in-Ok-clause-run g c =
    let r = c.in-Ok.ensures in
    record {
      said = map seen c.deref-2.result.now;
      within = rw c.deref-2.ensures.value c.in_ok-read.ensures.has;
      came = record { run = r.0; came = r.1; is = r.2 };
    }

pub returns-in-Ok-clause-savable : goal.returns-in-Ok-clause-savable
returns-in-Ok-clause-savable g c = lines_savable _ _ _ _ _ (returns-in-Ok-clause-run g c).came
