use Rattle.format_sections.proofs.Laws.{section_at, sections_count}
use Rattle.format_sections.proofs.law.sections_law.Goals as goal

pub returns-clause-section : goal.returns-clause-section
returns-clause-section c = section_at

pub returns-clause-count : goal.returns-clause-count
returns-clause-count c = sections_count
