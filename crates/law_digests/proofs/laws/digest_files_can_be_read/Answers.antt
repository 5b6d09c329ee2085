use Rattle.std.proofs.Common.{length}
use Rattle.std.specs.Prelude.{None, Some}
use Rattle.law_digests.specs.Issued.{sessions_of_lines, sessions_of_sections}
use Rattle.law_digests.proofs.Issued.{can_be_read}
use Rattle.law_digests.proofs.laws.digest_files_can_be_read.Goals as goal

pub returns-clause-lines : goal.returns-clause-lines
returns-clause-lines c = λ q database bytes statements J G file are issued.
    can_be_read q database (sessions_of_lines statements) None J G file (length bytes) issued
    (c.digests_are_no_more_than_their_lines.ensures q database (sessions_of_lines statements) None issued.X J G issued.reads issued.agree)
    (c.statements_are_within_their_input.ensures.lines bytes statements are.read) are.within

pub returns-clause-sections : goal.returns-clause-sections
returns-clause-sections c = λ q database bytes all_sections J G file are issued.
    can_be_read q database (sessions_of_sections all_sections) (Some 0) J G file (length bytes) issued
    (c.digests_are_no_more_than_their_lines.ensures q database (sessions_of_sections all_sections) (Some 0) issued.X J G issued.reads issued.agree)
    (c.statements_are_within_their_input.ensures.sections bytes all_sections are.read) are.within
