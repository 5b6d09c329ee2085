-- The rows that count, found among rows that stand by the thing that they are about and then by falling change.
use Rattle.std.specs.Prelude.{ℕ, zero, suc, Bool, false, if◌then◌else◌, List, [], ◌∷◌, set, Option, Some, None}
use Rattle.std.specs.Ordering.{int_cmp, ordering_then}
use Rattle.std.specs.declared.cmp.Ordering.{Ordering}
use Rattle.sql_value.specs.declared.value.Value.{Value}
use Rattle.spec_model.specs.Lists.{sorted}
use Rattle.spec_model.specs.Rows.{Row, number}
use Rattle.law_catalog_rows.specs.Latest.{number_at, change_of, is_past}

-- by the thing that is named at this place, and the greater change first
abbrev pub change_cmp : ℕ → Row → Row → Ordering
change_cmp k a b = ordering_then (int_cmp (number_at k a) (number_at k b)) (int_cmp (change_of k b) (change_of k a))

-- the last row that counts so far is about the same thing, and has a greater change
abbrev pub is_older : ℕ → Option Row → Row → Bool
is_older k None row = false
is_older k (Some last) row = is_past k last row

-- those of these rows that count, behind this one
abbrev pub newest : ℕ → Option Row → List Row → List Row
newest k last [] = []
newest k last (r ∷ rs) = if is_older k last r then newest k last rs else r ∷ newest k (Some r) rs

abbrev pub latest_of : ℕ → List Row → List Row
latest_of k rows = newest k None (sorted (change_cmp k) rows)

-- ---- rows whose change makes no difference

-- with 0 at this place, if one is given
abbrev pub with_zero : Option ℕ → Row → Row
with_zero None row = row
with_zero (Some place) row = set row place (number 0)

-- a place as it is counted behind the first value
abbrev pub one_nearer : Option ℕ → Option ℕ
one_nearer None = None
one_nearer (Some zero) = None
one_nearer (Some (suc place)) = Some place

-- the value that counts first
abbrev pub counted_value : Option ℕ → Value → Value
counted_value (Some zero) value = number 0
counted_value _ value = value
