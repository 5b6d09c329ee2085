use Rattle.std.proofs.Common.{codes}
use Rattle.test_grammar.proofs.Refused.{none, reserved, compared, mixed, keyless, behind, not_null, columnless}
use Rattle.test_grammar.proofs.samples.texts_are_none.Goals as goal

pub returns-clause-reserved : goal.returns-clause-reserved
returns-clause-reserved c = none (codes "DELETE of") reserved (c.parsing_keeps_to_the_grammar.ensures.complete (codes "DELETE of"))

pub returns-clause-compared : goal.returns-clause-compared
returns-clause-compared c = none (codes "DELETE t WHERE a = b = c") compared (c.parsing_keeps_to_the_grammar.ensures.complete (codes "DELETE t WHERE a = b = c"))

pub returns-clause-mixed : goal.returns-clause-mixed
returns-clause-mixed c = none (codes "SELECT COUNT(*), v FROM t") mixed (c.parsing_keeps_to_the_grammar.ensures.complete (codes "SELECT COUNT(*), v FROM t"))

pub returns-clause-keyless : goal.returns-clause-keyless
returns-clause-keyless c = none (codes "CREATE TABLE t (a INT)") keyless (c.parsing_keeps_to_the_grammar.ensures.complete (codes "CREATE TABLE t (a INT)"))

pub returns-clause-behind : goal.returns-clause-behind
returns-clause-behind c = none (codes "COMMIT t") behind (c.parsing_keeps_to_the_grammar.ensures.complete (codes "COMMIT t"))

pub returns-clause-not_null : goal.returns-clause-not_null
returns-clause-not_null c = none (codes "ALTER TABLE t ADD w INT NOT NULL") not_null (c.parsing_keeps_to_the_grammar.ensures.complete (codes "ALTER TABLE t ADD w INT NOT NULL"))

pub returns-clause-columnless : goal.returns-clause-columnless
returns-clause-columnless c = none (codes "ALTER TABLE t DROP v") columnless (c.parsing_keeps_to_the_grammar.ensures.complete (codes "ALTER TABLE t DROP v"))
