use Rattle.format_lines.proofs.Utf8.{utf8_by_line}
use Rattle.format_lines.proofs.law.utf8_law.Goals as goal

pub returns : goal.returns
returns c = utf8_by_line
