-- The orders by which rows and versions are sorted are total.
use Rattle.std.specs.Cmp.{IsTotalOrder, on_total, then_total, nat_cmp_total}
use Rattle.std.specs.Cmp.Lexicographic.{lists_total}
use Rattle.sql_value.specs.Order.{value_total}
use Rattle.spec_model.specs.Rows.{EventId, event_cmp}
use Rattle.spec_model.specs.Keys.{Placed, position_cmp, key_cmp}

pub event_total : IsTotalOrder event_cmp
event_total = then_total (on_total (λ (e : EventId). e.0) nat_cmp_total) (on_total (λ (e : EventId). e.1) nat_cmp_total)

pub position_total : IsTotalOrder position_cmp
position_total = on_total (λ (p : Placed). p.1.key_position) nat_cmp_total

pub key_total : IsTotalOrder key_cmp
unfolding key_cmp
key_total = lists_total value_total
