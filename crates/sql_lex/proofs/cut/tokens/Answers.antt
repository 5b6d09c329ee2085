use Rattle.sql_lex.proofs.Spans.{rise_if, spans_if}
use Rattle.sql_lex.proofs.cut.tokens.Goals as goal

pub returns-clause-rise : goal.returns-clause-rise
returns-clause-rise c = rise_if c.args.text.now c.utf8.text c.cut.result c.cut.ensures.found

pub returns-clause-spans : goal.returns-clause-spans
returns-clause-spans c = spans_if c.args.text.now c.utf8.text c.cut.result c.cut.ensures.found
