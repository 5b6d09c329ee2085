use Rattle.law_digests.proofs.Lines as lines
use Rattle.law_digests.proofs.Sections as sections
use Rattle.law_digests.proofs.inputs.statements_are_within_their_input.Goals as goal

pub returns-clause-lines : goal.returns-clause-lines
returns-clause-lines c = λ bytes statements is. lines.input_within bytes statements (c.sessions_law.ensures.once statements) is

pub returns-clause-sections : goal.returns-clause-sections
returns-clause-sections c = λ bytes all_sections is. sections.input_within c.statements_law.ensures bytes all_sections is
