-- The lines of rows.
use Rattle.std.specs.Prelude.{ℕ, Bool, List, [], ◌∷◌, ◌++◌, flat_map}
use Rattle.sql_value.specs.declared.value.Value.{Value}
use Rattle.sql_value.specs.Printed.{printed}
use Rattle.spec_model.specs.Rows.{Row}
use Rattle.format_reply.specs.Shown.{row_text}

-- the values, each behind a vertical bar
abbrev pub behind_bars : List Value → List ℕ
behind_bars values = flat_map (λ v. 124 ∷ printed v) values

-- the line of a row behind an indent, with its end
unfoldable pub line_of : List ℕ → Bool → Row → List ℕ
line_of indent escapes row = indent ++ row_text escapes row ++ 10 ∷ []

-- the lines of some rows
abbrev pub lines_of : List ℕ → Bool → List Row → List ℕ
lines_of indent escapes rows = flat_map (line_of indent escapes) rows
