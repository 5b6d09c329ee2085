-- Values at places that were looked up.
use Rattle.std.specs.Prelude.{ℕ, List, map, Option}
use Rattle.spec_model.specs.Rows.{Row}
use Rattle.spec_model.specs.Query.{value_in}

-- the values of a row at some places
unfoldable pub values_at : List (Option ℕ) → Row → Row
values_at places row = map (λ place. value_in place row) places
