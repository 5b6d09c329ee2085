use Rattle.sql_scalar.proofs.OrderLaws as laws
use Rattle.sql_scalar.proofs.laws.order_of_kinds.Goals as goal

pub returns : goal.returns
returns c = record { null = laws.null; numbers = laws.numbers; texts = laws.texts; bytes = laws.bytes; days = laws.days }
