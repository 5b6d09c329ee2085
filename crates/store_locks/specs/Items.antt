-- The order of items.
use Rattle.std.specs.Prelude.{ℕ, []}
use Rattle.std.specs.declared.cmp.Ordering.{Ordering}
use Rattle.std.specs.Ordering.{nat_cmp, on, then_cmp}
use Rattle.std.specs.Cmp.{IsTotalOrder, then_total, on_total, nat_cmp_total}
use Rattle.std.specs.Cmp.Lexicographic.{lists_total}
use Rattle.sql_value.specs.Order.{value_total}
use Rattle.sql_types.specs.declared.lock.Item.{Item}
use Rattle.sql_types.specs.declared.lock.Item.TheVariants as item
use Rattle.spec_model.specs.Keys.{Key, key_cmp}

-- the whole before the keys
abbrev pub kind : Item → ℕ
kind item.Whole = 0
kind (item.Key key) = 1

abbrev pub key_in : Item → Key
key_in item.Whole = []
key_in (item.Key key) = key

-- the whole, and then the keys in their order
unfoldable pub item_cmp : Item → Item → Ordering
item_cmp = then_cmp (on kind nat_cmp) (on key_in key_cmp)

pub key_total : IsTotalOrder key_cmp
unfolding key_cmp
key_total = lists_total value_total

pub item_total : IsTotalOrder item_cmp
unfolding item_cmp
item_total = then_total (on_total kind nat_cmp_total) (on_total key_in key_total)
