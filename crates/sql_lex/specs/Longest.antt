-- The longest token at the front of some bytes.
use Rattle.std.specs.Prelude.{ℕ, zero, suc, List, length, take, Option, Some, None}
use Rattle.sql_lex.specs.declared.token.Kind.{Kind}
use Rattle.sql_lex.specs.IsToken.{kind_of}

-- the first, or the other where there is none
abbrev pub or_else : {A : Type 0} → Option A → Option A → Option A
or_else (Some a) other = Some a
or_else None other = other

-- the kind beside the length
abbrev pub with_length : ℕ → Option Kind → Option (Kind × ℕ)
with_length n (Some k) = Some (k, n)
with_length n None = None

-- the longest token of at most so many bytes that the bytes begin with: its kind and its length
abbrev pub longest_within : ℕ → List ℕ → Option (Kind × ℕ)
longest_within zero z = None
longest_within (suc n) z = or_else (with_length (suc n) (kind_of (take (suc n) z))) (longest_within n z)

-- the longest token that the bytes begin with
unfoldable pub longest : List ℕ → Option (Kind × ℕ)
longest z = longest_within (length z) z
