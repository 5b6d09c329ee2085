use Rattle.sql_value.specs.Order.{value_total}
use Rattle.sql_scalar.proofs.OrderLaws as laws
use Rattle.sql_scalar.proofs.laws.order_is_total.Goals as goal

pub returns : goal.returns
returns c = record { turned = value_total.antisymm; transitive = laws.transitive; equal = laws.equal }
