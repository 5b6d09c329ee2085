-- The numbers of sessions.
use Rattle.std.specs.Prelude.{ℕ, not, List, map}
use Rattle.std.specs.List.{prefix_len}
use Rattle.std.specs.Str.{bytes_eq}
use Rattle.format_lines.specs.Line.{Statement}

-- how many names stand before the first that is this one
abbrev pub number_of : List (List ℕ) → List ℕ → ℕ
number_of names name = prefix_len (λ other. not (bytes_eq name other)) names

-- of the sessions of some statements
abbrev pub numbers_of : List (List ℕ) → List Statement → List ℕ
numbers_of names statements = map (λ s. number_of names s.session) statements
