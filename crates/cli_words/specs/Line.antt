-- How the words behind a command are read: which are options with their values, and which are operands.
use Rattle.std.specs.Prelude.{◌+◌, ℕ, Bool, List, [], ◌∷◌, ◌++◌}
use Rattle.std.specs.Prelude.{Option, Some, None, if◌then◌else◌, is_some, slice_get, option_and_then}
use Rattle.std.specs.List.{list_any}
use Rattle.std.specs.Str.{bytes_eq, chars}
use Rattle.clap.specs.Lexer.{long_of, short_of}

abbrev pub Text : Type 0
Text = List ℕ

-- the name of an option or of an operand, and its value
abbrev pub Use : Type 0
Use = Text × Text

infixl 10 ◌>>=◌
abbrev pub ◌>>=◌ : {A B : Type 0} → Option A → (A → Option B) → Option B
None >>= f = None
(Some x) >>= f = f x

-- the use that the last word made or began
pub data Last : Type 0 where
  nothing : Last
  whole : Text → Text → Last
  begun : Text → Last

abbrev pub is_among : List Text → Text → Bool
is_among names name = list_any (λ n. bytes_eq n name) names

abbrev pub is_used : List Use → Text → Bool
is_used uses name = list_any (λ u. bytes_eq u.0 name) uses

-- each name comes at most once
abbrev pub with_use : List Use → Text → Text → Option (List Use)
with_use uses name value = if is_used uses name then None else Some (uses ++ (name, value) ∷ [])

abbrev pub closed : List Use → Last → Option (List Use)
closed uses nothing = Some uses
closed uses (whole name value) = with_use uses name value
closed uses (begun name) = None

-- a hyphen and a character, as `-x`, which no command has
abbrev pub is_short : Text → Bool
is_short word = is_some (option_and_then (λ flags. slice_get (chars flags) 0) (short_of word))

abbrev pub Going : Type 0
Going = List Use → Last → ℕ → Option (List Use)

-- one word, by what it looks like; `go` goes on with the uses, the last one and the number of the next
-- operand
module _ (options operands : List Text) where
  abbrev pub operand_read : List Use → Last → ℕ → Text → Going → Option Text → Option (List Use)
  operand_read uses last place word go None = None
  operand_read uses last place word go (Some name) =
      closed uses last >>= λ u. go u (whole name word) (place + 1)

  abbrev pub plain_read : List Use → Last → ℕ → Text → Going → Option (List Use)
  plain_read uses (begun name) place word go = go uses (whole name word) place
  plain_read uses nothing place word go = operand_read uses nothing place word go (slice_get operands place)
  plain_read uses (whole n v) place word go =
      operand_read uses (whole n v) place word go (slice_get operands place)

  abbrev pub long_read : List Use → Last → ℕ → Text → Option Text → Going → Option (List Use)
  long_read uses last place name None go = closed uses last >>= λ u. go u (begun name) place
  long_read uses last place name (Some value) go =
      closed uses last >>= λ u. with_use u name value >>= λ v. go v nothing place

  abbrev pub word_read : List Use → Last → ℕ → Text → Going → Option (Text × Option Text) → Option (List Use)
  word_read uses last place word go (Some p) =
      if is_among options p.0 then long_read uses last place p.0 p.1 go else None
  word_read uses last place word go None =
      if is_short word then None else plain_read uses last place word go

  unfoldable pub read_from : List Text → Going
  read_from [] uses last place = closed uses last
  read_from (word ∷ words) uses last place = word_read uses last place word (read_from words) (long_of word)

  -- the uses that the words make, in their order, or none where they lack the form
  abbrev pub uses_of : List Text → Option (List Use)
  uses_of words = read_from words [] nothing 0
