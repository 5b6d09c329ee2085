-- Sums of columns that were worked out.
use Rattle.std.specs.Prelude.{ℕ, ◌≡◌, All, List, Option, Ok, map}
use Rattle.sql_value.specs.declared.value.Value.{Value}
use Rattle.spec_model.specs.Rows.{Row}
use Rattle.spec_model.specs.Query.{total, value_in}

-- each is the sum of the values that the rows have at its place
abbrev pub AreTotals : List Row → List (Option ℕ × Value) → Type 0
AreTotals rows totals = All (λ t. total (map (value_in t.0) rows) ≡ Ok t.1) totals
