use Rattle.sql_reference.proofs.Agreed.{first_named, none_named}
use Rattle.sql_reference.proofs.laws.differs_names_the_first.Goals as goal

pub returns : goal.returns
returns c = record { first = first_named; none = none_named }
