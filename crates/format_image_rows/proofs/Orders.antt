-- The order of stored rows is total.
use Rattle.std.specs.Prelude.{map}
use Rattle.std.specs.Cmp.{IsTotalOrder, on_total}
use Rattle.spec_model.specs.Rows.{value_or_null}
use Rattle.format_image.specs.Rows.{stored_cmp}
use Rattle.sql_parts.proofs.Orders.{key_total}

pub stored_total : IsTotalOrder stored_cmp
unfolding stored_cmp
stored_total = on_total (map value_or_null) key_total
