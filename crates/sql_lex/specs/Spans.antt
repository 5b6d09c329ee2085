-- Where the tokens of a text lie.
use Rattle.std.specs.Prelude.{◌≤◌, ◌<◌, ℕ, List, [], ◌∷◌, length}
use Rattle.std.specs.Str.{IsCharBoundary}
use Rattle.sql_lex.specs.declared.token.Token.{Token}

-- each token has a byte or more, begins where the one before ends or behind, and ends at the place `end` or
-- before
abbrev pub Rise : ℕ → List Token → ℕ → Type 0
Rise at [] end = at ≤ end
Rise at (t ∷ ts) end = (at ≤ t.start) × (t.start < t.end) × Rise t.end ts end

-- the token is a piece of the text that cuts no character
pub record IsSpan (text : List ℕ) (t : Token) : Type 0 where
  pub some : t.start < t.end
  pub within : t.end ≤ length text
  pub start : IsCharBoundary text t.start
  pub end : IsCharBoundary text t.end
