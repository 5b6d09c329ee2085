-- The sessions of an input.
use Rattle.std.specs.Prelude.{ℕ, if◌then◌else◌, List, [], ◌∷◌, ◌++◌}
use Rattle.std.specs.List.{list_any, fold}
use Rattle.std.specs.Str.{bytes_eq}
use Rattle.format_lines.specs.Line.{Statement}

-- the names, and behind them the session of a statement where it isn't among them
abbrev pub with_session : List (List ℕ) → Statement → List (List ℕ)
with_session names s = if list_any (bytes_eq s.session) names then names else names ++ s.session ∷ []

-- the names of the sessions of some statements, each once, by first appearance
unfoldable pub sessions_of : List Statement → List (List ℕ)
sessions_of statements = fold with_session [] statements

-- as many sessions as an input has at most; the setup of a plan doesn't count
abbrev pub max_sessions : ℕ
max_sessions = 64
