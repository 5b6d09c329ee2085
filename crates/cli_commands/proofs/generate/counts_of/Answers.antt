use Rattle.std.proofs.Common.{◌∙◌}
use Rattle.cli_commands.proofs.ReportLemmas.{three_lines}
use Rattle.cli_commands.proofs.generate.counts_of.Goals as goal

pub returns : goal.returns
returns c = c.in_ok-format.ensures.ok ∙ three_lines c.args.report.transactions c.args.report.rows c.args.report.history
