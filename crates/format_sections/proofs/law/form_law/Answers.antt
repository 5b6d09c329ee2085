use Rattle.format_sections.proofs.Laws.{first_found, all_have_form}
use Rattle.format_sections.proofs.law.form_law.Goals as goal

pub returns-clause-named : goal.returns-clause-named
returns-clause-named c = first_found

pub returns-clause-none : goal.returns-clause-none
returns-clause-none c = all_have_form
