-- A quoted text, piece by piece.
use Rattle.std.specs.Prelude.{ℕ, ◌<◌, ◌≡◌, false, List, [], ◌∷◌, ◌++◌, length, Option, Some, None}
use Rattle.sql_value.specs.Literal.{unquoted_from}

-- the rest goes on with this piece, and then ends or has a doubled quote before `more`
abbrev pub IsPiece : List ℕ → List ℕ → Option (List ℕ) → Type 0
IsPiece rest piece None = (before : List ℕ) → unquoted_from false before rest ≡ Some (before ++ piece)
IsPiece rest piece (Some more) =
    ((before : List ℕ)
    → unquoted_from false before rest ≡ unquoted_from false (before ++ piece ++ 39 ∷ []) more)
    × (length more < length rest)
