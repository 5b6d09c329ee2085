use Rattle.law_syntax.proofs.StmtComplete.{found_is, refused_is}
use Rattle.sql_parse.proofs.text.parse_any.Goals as goal

pub returns-clause-found : goal.returns-clause-found
returns-clause-found c = found_is c.args.text.now c.read_text.result c.read_text.ensures

pub returns-clause-refused : goal.returns-clause-refused
returns-clause-refused c = refused_is c.args.text.now c.read_text.result c.read_text.ensures
