use Rattle.law_server.proofs.Servers.{some_server}
use Rattle.law_server.proofs.laws.there_is_such_a_server.Goals as goal

pub returns : goal.returns
returns c = some_server
