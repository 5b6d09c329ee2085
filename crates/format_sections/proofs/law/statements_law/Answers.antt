use Rattle.format_sections.proofs.Laws.{all_texts}
use Rattle.format_sections.proofs.law.statements_law.Goals as goal

pub returns : goal.returns
returns c = all_texts
