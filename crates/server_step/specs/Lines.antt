-- The lines of an input, as histories have them.
use Rattle.std.specs.Prelude.{List, map}
use Rattle.spec_history.specs.Inputs.{InputLine}
use Rattle.format_lines.specs.Line.{Statement}

-- each without its number
abbrev pub lines_of : List Statement → List InputLine
lines_of statements = map (λ s. record { session = s.session; text = s.text }) statements
