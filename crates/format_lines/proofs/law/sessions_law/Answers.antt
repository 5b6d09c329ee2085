use Rattle.format_lines.proofs.Sessions.{all_named, all_once, all_of_statements}
use Rattle.format_lines.proofs.law.sessions_law.Goals as goal

pub returns-clause-named : goal.returns-clause-named
returns-clause-named c = all_named

pub returns-clause-once : goal.returns-clause-once
returns-clause-once c = all_once

pub returns-clause-of_statements : goal.returns-clause-of_statements
returns-clause-of_statements c = all_of_statements
