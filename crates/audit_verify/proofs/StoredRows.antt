-- The order of stored rows is total.
use Rattle.std.proofs.Common.{map}
use Rattle.std.specs.Cmp.{IsTotalOrder, on_total}
use Rattle.spec_model.specs.Rows.{value_or_null}
use Rattle.sql_parts.proofs.Orders.{key_total}
use Rattle.format_image.specs.Rows.{Stored, stored_cmp}

pub stored_total : IsTotalOrder stored_cmp
unfolding stored_cmp
stored_total = on_total (λ (s : Stored). map value_or_null s) key_total
