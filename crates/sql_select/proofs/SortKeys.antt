-- Sorting by keys whose places were looked up is sorting by columns.
use Rattle.std.proofs.Common.{◌≡◌, ℕ, refl, ap, Bool, true, false, List, [], ◌∷◌, map, rules}
use Rattle.std.specs.Prelude.{if◌then◌else◌}
use Rattle.std.specs.Cmp.{IsTotalOrder, then_total}
use Rattle.std.specs.Cmp.Rules.{comparing}
use Rattle.std.specs.Ordering.{ordering_then, on, flip_args}
use Rattle.sql_value.specs.declared.value.Value.{Value}
use Rattle.sql_value.specs.declared.column.ColumnDef.{ColumnDef}
use Rattle.sql_value.specs.Order.{value_cmp, value_total}
use Rattle.spec_model.specs.Lists.{sorted}
use Rattle.spec_model.specs.Rows.{Row}
use Rattle.spec_model.specs.Query.{value_in, column_cmp, order_cmp}
use Rattle.sql_select.specs.SortKeys.{key_of, keys_cmp}
use Rattle.sql_select.specs.declared.ordering.SortKey.{SortKey}

by_value : (f : Row → Value) (descending : Bool) → IsTotalOrder (λ a b. if descending then value_cmp (f b) (f a) else value_cmp (f a) (f b))
by_value f true = flipped
  where
    flipped : IsTotalOrder (flip_args (on f value_cmp))
    flipped = search (value_total, comparing, rules)
by_value f false = straight
  where
    straight : IsTotalOrder (on f value_cmp)
    straight = search (value_total, comparing, rules)

-- rows stand in an order by keys, those that are equal in all of them as one
pub keys_total : (keys : List SortKey) → IsTotalOrder (keys_cmp keys)
keys_total [] = record { antisymm = λ x y. refl; trans = λ x y z p q. p; congr = λ x y z p. refl }
keys_total (k ∷ ks) = then_total (by_value (value_in k.place) k.descending) (keys_total ks)

same_order : (columns : List ColumnDef) (order : List (List ℕ × Bool)) (a b : Row) → keys_cmp (map (key_of columns) order) a b ≡ order_cmp columns order a b
same_order columns [] a b = refl
same_order columns (o ∷ os) a b = ap (ordering_then (column_cmp columns o a b)) (same_order columns os a b)

pub sorted_by_keys : (columns : List ColumnDef) (order : List (List ℕ × Bool)) (rows : List Row)
    → sorted (keys_cmp (map (key_of columns) order)) rows ≡ sorted (order_cmp columns order) rows
sorted_by_keys columns order rows = ap (λ c. sorted c rows) (λ i a b. same_order columns order a b i)
