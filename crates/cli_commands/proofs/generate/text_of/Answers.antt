use Rattle.std.proofs.Common.{◌∙◌}
use Rattle.spec_verify.specs.Line.{verdict_line}
use Rattle.cli_commands.specs.Generated.{counts_text}
use Rattle.cli_commands.proofs.ReportLemmas.{two_more}
use Rattle.cli_commands.proofs.generate.text_of.Goals as goal

pub returns : goal.returns
returns c = (rw c.in_ok-counts.ensures at c.in_ok-format.ensures.ok) ∙ two_more (counts_text c.args.report) (verdict_line c.args.report.verdict) c.args.report.sum
